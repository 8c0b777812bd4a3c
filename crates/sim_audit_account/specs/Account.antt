-- The account of an audit: what is noted of each line of the recording, and the verdict. Figures wrap at 2^64.
use Rattle.std.specs.Prelude.{ℕ, ◌+◌, ◌%◌, ◌^◌, Bool, not, ◌&&◌, ◌==◌, if◌then◌else◌, List, [], take, Some, None}
use Rattle.std.specs.Option.{is_none, option_or}
use Rattle.sim_audit_account.specs.declared.Account.{Account}

-- before the first line
abbrev pub nothing : Account
nothing = record { lines = 0; calls = 0; answers = 0; differ = 0; bad = 0; first = None; call = None; read = 0; words = [] }

abbrev pub one_more : ℕ → ℕ
one_more n = (n + 1) % 2 ^ 64

-- ---- Notes

-- a line of the recording
abbrev pub line_note : Account → Account
line_note a = record a { lines = one_more a.lines }

-- it is a call: none of the book's answers to it is compared yet
abbrev pub call_note : Account → (words : List ℕ) → Account
call_note a words = record a { call = Some a.lines; read = 0; words = take 36 words }

-- it was played
abbrev pub played_note : Account → Account
played_note a = record a { calls = one_more a.calls }

-- it is no call that the book knows
abbrev pub bad_note : Account → Account
bad_note a = record a { bad = one_more a.bad }

-- an answer differs, is one too many, or is missing: the first such call keeps its line
abbrev pub differ_note : Account → Account
differ_note a = record a { differ = one_more a.differ; first = option_or a.first a.call }

-- an answer was compared, and the book's answers up to `next` with it
abbrev pub compare_note : Account → (next : ℕ) → Account
compare_note a next = record a { answers = one_more a.answers; read = next }

abbrev pub answer_note : Account → Bool → (next : ℕ) → Account
answer_note a same next = if same then compare_note a next else differ_note (compare_note a next)

-- ---- The verdict: a call was played, no answer differs, and no line is bad

abbrev pub passed : Account → Bool
passed a = not (a.calls == 0) && is_none a.first && a.differ == 0 && a.bad == 0
