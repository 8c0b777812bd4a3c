-- No window is empty: what each call leaves of the rules' and the blocks' windows.
use mathlib.Core.Path.{◌≡◌, refl}
use Prim.Native.Nat.{ℕ, zero, suc}
use mathlib.Core.Bool.{Bool, true, false, cond}
use mathlib.Core.List.{List, [], ◌∷◌, ◌++◌}
use lib.Dec.{eqb}
use Rattle.table_rows.specs.Lists.{Each}
use Rattle.fault_rule.specs.declared.TimeWindow.TheVariants.{During}
use Rattle.fault_rule.specs.declared.DropSpec.{DropSpec}
use Rattle.fault_rule.specs.Rule.{forward, window_in}
use Rattle.fault_rule.proofs.Windows.{forward_holds}
use Rattle.fault_rules.specs.declared.FaultRule.{FaultRule}
use Rattle.fault_rules.specs.Rules.{new_rule, with_rule, without, fire_at}
use Rattle.fault_decide.specs.Decide.{Decision, rules_after}
use Rattle.fault_blocks.specs.declared.BlockWindow.{BlockWindow}
use Rattle.fault_blocks.specs.Blocks.{window_of, always, during, unblocked, other}
use Rattle.spec_book.specs.Demand3.{RuleHolds, BlockHolds}
use Rattle.spec_book.proofs.Each.{each_append, each_keep}

-- ---- Rules

pub install_windows : (n : ℕ) (d : DropSpec) (rs : List FaultRule) → forward (window_in d) ≡ true → Each RuleHolds rs → Each RuleHolds (with_rule n d rs)
install_windows n d rs f h = each_append RuleHolds rs (new_rule n d ∷ []) h (forward_holds (window_in d) f, tt)

pub remove_windows : (id : ℕ) (rs : List FaultRule) → Each RuleHolds rs → Each RuleHolds (without id rs)
unfolding without
remove_windows id [] h = tt
remove_windows id (r ∷ rs) h = go (eqb r.id id) (remove_windows id rs h.1)
  where
    go : (b : Bool) → Each RuleHolds (without id rs) → Each RuleHolds (cond b rs (r ∷ without id rs))
    go true k = h.1
    go false k = (h.0, k)

-- a rule that fires keeps its card
fire_windows : (k : ℕ) (rs : List FaultRule) → Each RuleHolds rs → Each RuleHolds (fire_at k rs)
unfolding fire_at
fire_windows k [] h = tt
fire_windows zero (r ∷ rs) h = h
fire_windows (suc k) (r ∷ rs) h = (h.0, fire_windows k rs h.1)

pub ruled_windows : (v : Decision) (rs : List FaultRule) → Each RuleHolds rs → Each RuleHolds (rules_after v rs)
ruled_windows v rs h = go v.drops
  where
    go : (b : Bool) → Each RuleHolds (cond b (fire_at v.place rs) rs)
    go true = fire_windows v.place rs h
    go false = h

-- ---- Blocks

always_holds : (from to : ℕ) → BlockHolds (always from to)
unfolding window_of forward
always_holds from to = forward_holds (window_of (always from to)) refl

during_holds : (from to start end : ℕ) → forward (During start end) ≡ true → BlockHolds (during from to start end)
unfolding window_of
during_holds from to start end f = forward_holds (During start end) f

pub always_windows : (from to : ℕ) (bs : List BlockWindow) → Each BlockHolds bs → Each BlockHolds (bs ++ (always from to ∷ []))
always_windows from to bs h = each_append BlockHolds bs (always from to ∷ []) h (always_holds from to, tt)

pub during_windows : (from to start end : ℕ) (bs : List BlockWindow) → forward (During start end) ≡ true → Each BlockHolds bs → Each BlockHolds (bs ++ (during from to start end ∷ []))
during_windows from to start end bs f h = each_append BlockHolds bs (during from to start end ∷ []) h (during_holds from to start end f, tt)

pub unblock_windows : (from to : ℕ) (bs : List BlockWindow) → Each BlockHolds bs → Each BlockHolds (unblocked from to bs)
unblock_windows from to bs h = each_keep BlockHolds (other from to) bs h
