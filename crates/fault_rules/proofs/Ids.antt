-- Ids ascend, whatever calls came: so a removed id reads as gone, and removal is the Rust's `retain`.
use Rattle.std.proofs.Common.{◌≡◌, ℕ, zero, suc, ◌+◌, ◌<◌, ◌≤◌, Bool, true, false, cond, not, eqb, List, [], ◌∷◌, sym, refl, ap, ◌∙◌, arith, ne_eqb, eqb-true}
use Rattle.fault_rule.specs.declared.DropSpec.{DropSpec}
use Rattle.table_rows.specs.Rows.{keep, pick}
use Rattle.fault_rules.specs.declared.FaultRule.{FaultRule}
use Rattle.std.specs.Prelude.{Option, Some, None}
use Rattle.fault_rules.specs.Rules.{with_rule, without, reading_of, fire_at, Ascending}

abbrev gone : Option ℕ
gone = None

-- ---- each call keeps the ids in ascending order
pub install_ascends : (low high : ℕ) (rs : List FaultRule) (s : DropSpec) → low ≤ high → Ascending low high rs → Ascending low (high + 1) (with_rule high s rs)
install_ascends low high [] s h a = (h, omega arith, omega arith)
install_ascends low high (r ∷ rs) s h a = (a.0, omega (arith, a.1), install_ascends (r.id + 1) high rs s (omega (arith, a.1)) a.2)

lower : (low more high : ℕ) (rs : List FaultRule) → low ≤ more → Ascending more high rs → Ascending low high rs
lower low more high [] h a = omega (arith, h, a)
lower low more high (r ∷ rs) h a = (omega (arith, a.0), a.1, a.2)

remove_step : (low high : ℕ) (r : FaultRule) (rs l : List FaultRule) (b : Bool) → low ≤ r.id → r.id < high → Ascending (r.id + 1) high rs → Ascending (r.id + 1) high l
    → Ascending low high (cond b rs (r ∷ l))
remove_step low high r rs l true h k a n = lower low (r.id + 1) high rs (omega arith) a
remove_step low high r rs l false h k a n = (h, k, n)

pub remove_ascends : (id low high : ℕ) (rs : List FaultRule) → Ascending low high rs → Ascending low high (without id rs)
unfolding without
remove_ascends id low high [] a = a
remove_ascends id low high (r ∷ rs) a =
    remove_step low high r rs (without id rs) (eqb r.id id) a.0 a.1 a.2 (remove_ascends id (r.id + 1) high rs a.2)

pub fire_ascends : (k low high : ℕ) (rs : List FaultRule) → Ascending low high rs → Ascending low high (fire_at k rs)
unfolding fire_at
fire_ascends k low high [] a = a
fire_ascends zero low high (r ∷ rs) a = a
fire_ascends (suc k) low high (r ∷ rs) a = (a.0, a.1, fire_ascends k (r.id + 1) high rs a.2)

-- ---- so no other rule has the id of a removed one
above : (id low high : ℕ) (rs : List FaultRule) → id < low → Ascending low high rs → reading_of id rs ≡ gone
unfolding reading_of
above id low high [] h a = refl
above id low high (r ∷ rs) h a =
    ap (λ (b : Bool). cond b (Some r.fired) (reading_of id rs)) (ne_eqb r.id id (λ e. omega (arith, a.0)))
    ∙ above id (r.id + 1) high rs (omega (arith, a.0)) a.2

gone_step : (id high : ℕ) (r : FaultRule) (rs : List FaultRule) (b : Bool) → eqb r.id id ≡ b → Ascending (r.id + 1) high rs → reading_of id (without id rs) ≡ gone
    → reading_of id (cond b rs (r ∷ without id rs)) ≡ gone
unfolding reading_of
gone_step id high r rs true e a h = let q = eqb-true r.id id e in above id (r.id + 1) high rs (omega (arith, q)) a
gone_step id high r rs false e a h = ap (λ (b : Bool). cond b (Some r.fired) (reading_of id (without id rs))) e ∙ h

-- a removed id reads as gone
pub removed_gone : (id low high : ℕ) (rs : List FaultRule) → Ascending low high rs → reading_of id (without id rs) ≡ gone
unfolding reading_of without
removed_gone id low high [] a = refl
removed_gone id low high (r ∷ rs) a = gone_step id high r rs (eqb r.id id) refl a.2 (removed_gone id (r.id + 1) high rs a.2)

-- ---- the Rust's `retain`: the rules with another id
abbrev other_id : ℕ → FaultRule → Bool
other_id id r = not (eqb r.id id)

others_stay : (id low high : ℕ) (rs : List FaultRule) → id < low → Ascending low high rs → rs ≡ keep (other_id id) rs
others_stay id low high [] h a = refl
others_stay id low high (r ∷ rs) h a =
    ap (λ (l : List FaultRule). r ∷ l) (others_stay id (r.id + 1) high rs (omega (arith, a.0)) a.2)
    ∙ ap (λ (b : Bool). pick (not b) (r ∷ keep (other_id id) rs) (keep (other_id id) rs)) (sym (ne_eqb r.id id (λ e. omega (arith, a.0))))

retain_step : (id high : ℕ) (r : FaultRule) (rs : List FaultRule) (b : Bool) → eqb r.id id ≡ b → Ascending (r.id + 1) high rs → without id rs ≡ keep (other_id id) rs
    → cond b rs (r ∷ without id rs) ≡ pick (not b) (r ∷ keep (other_id id) rs) (keep (other_id id) rs)
retain_step id high r rs true e a h = let q = eqb-true r.id id e in others_stay id (r.id + 1) high rs (omega (arith, q)) a
retain_step id high r rs false e a h = ap (λ (l : List FaultRule). r ∷ l) h

pub removed_retains : (id low high : ℕ) (rs : List FaultRule) → Ascending low high rs → without id rs ≡ keep (λ r. not (eqb r.id id)) rs
unfolding without
removed_retains id low high [] a = refl
removed_retains id low high (r ∷ rs) a = retain_step id high r rs (eqb r.id id) refl a.2 (removed_retains id (r.id + 1) high rs a.2)
