-- Document 01, network (a ring of 64 for type and shard or global): the rings of carried messages: one for each type and scope. In one table stand the heads of all rings, then their entries.
use Rattle.std.specs.Prelude.{List, [], ◌∷◌, ℕ, ◌+◌, ◌*◌, ◌≤◌, ◌<◌, length, get_or, refl}
use Rattle.std.proofs.Common.{arith}
use Rattle.table_shift.proofs.Blocks.{cells_eq}
use Rattle.table_rows.specs.Lists.{up_to}
use Rattle.table_rows.specs.Table.{Form, Exact}
use Rattle.table_ring.specs.Ring.{count_at, Sound, ring_at, entry_at, pushed_at}
use Rattle.table_rings.specs.declared.Entry.{Entry}

-- entries that a ring keeps; words of an entry, of a head, of a ring's entries
abbrev pub slots : ℕ
slots = 64

abbrev pub width : ℕ
width = 3

abbrev pub head_width : ℕ
head_width = 2

abbrev pub span : ℕ
span = slots * width

-- message types at most; scopes of a type: 16 shards and global
abbrev pub kinds : ℕ
kinds = 16

abbrev pub scopes : ℕ
scopes = 17

abbrev pub number_of : ℕ → ℕ → ℕ
number_of kind scope = kind * scopes + scope

-- the entry at the head of a list of words
abbrev pub read : List ℕ → Entry
read l = record { class = get_or l 0 0; wire = get_or l 1 0; tag = get_or l 2 0 }

abbrev pub words : Entry → List ℕ
words e = e.class ∷ e.wire ∷ e.tag ∷ []

abbrev pub form : Form Entry
form = record { width = width; read = read; words = words }

-- an entry and its words: each way undoes the other
pub exact : Exact form
exact = record { long = λ e. refl; back = λ e m. refl; whole = λ l h. cells_eq l 0 0 width (omega arith) }

abbrev pub none : Entry
none = record { class = 0; wire = 0; tag = 0 }

-- ring r is one of `rings`, and the table has them all
pub record Fits (rings r : ℕ) (ws : List ℕ) : Type 0 where
  pub there : r < rings
  pub room : rings * (head_width + span) ≤ length ws

-- where ring r's head and entries stand
abbrev pub head_of : ℕ → ℕ
head_of r = r * head_width

abbrev pub base_of : ℕ → ℕ → ℕ
base_of rings r = rings * head_width + r * span

abbrev pub count_of : List ℕ → ℕ → ℕ
count_of ws r = count_at (head_of r) ws

-- what question 1 asks of ring r's head
abbrev pub SoundRing : List ℕ → ℕ → Type 0
SoundRing ws r = Sound slots (head_of r) ws

-- ring r, oldest first; all rings
abbrev pub entries : ℕ → List ℕ → ℕ → List Entry
entries rings ws r = ring_at form slots (head_of r) (base_of rings r) ws

abbrev pub all_rings : ℕ → List ℕ → List (List Entry)
all_rings rings ws = up_to rings (entries rings ws)

-- the k-th oldest of ring r
abbrev pub entry_of : ℕ → List ℕ → ℕ → ℕ → Entry
entry_of rings ws r k = entry_at form slots (head_of r) (base_of rings r) none ws k

-- one entry more for ring r
abbrev pub pushed : ℕ → List ℕ → ℕ → Entry → List ℕ
pushed rings ws r e = pushed_at form slots (head_of r) (base_of rings r) ws e
