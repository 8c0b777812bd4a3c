use Rattle.std.proofs.Common.{◌≡◌, ◌≢◌, ℕ, ◌-◌, ◌^◌, List, length, ap, ap₂, sym, ◌∙◌, arith}
use Rattle.std.proofs.lemmas.Bool.{eqb-true, eqb-false}
use Rattle.hash_lanes.specs.Lanes.{whole_of}
use Rattle.math_parts.proofs.Parts.{empty_left}
use Rattle.hash_digest.proofs.Joining.{both_joined}
use Rattle.hash_digest.proofs.TreeLaws.{fourth}
use Rattle.hash_digest.proofs.whole_parts.Goals as goal

pub whole-requires : goal.whole-requires
whole-requires c =
    let p = fourth c.args.k c.requires.0 in
    let n : length c.args.head.now ≡ 0 = eqb-true _ _ (sym c.is_empty.ensures ∙ c.if-is_empty.true) in
    omega (arith, c.requires)

pub returns-then-is_empty : goal.returns-then-is_empty
returns-then-is_empty c = let a = c.args in
    c.whole.ensures ∙ ap (λ (l : List ℕ). whole_of (a.k - 2) l a.t a.e) (empty_left a.head.now a.tail.now (eqb-true _ _ (sym c.is_empty.ensures ∙ c.if-is_empty.true)))

pub joined-b-requires : goal.joined-b-requires
joined-b-requires c =
    let n : length c.args.head.now ≢ 0 = eqb-false _ _ (sym c.is_empty.ensures ∙ c.if-is_empty.false) in
    let k : c.args.k ≡ 2 = c.requires.3 (omega arith) in
    let p : 2 ^ c.args.k ≡ 4 = ap (λ j. 2 ^ j) k in
    omega (arith, c.requires)

pub whole-requires-2 : goal.whole-requires-2
whole-requires-2 c =
    let n : length c.args.head.now ≢ 0 = eqb-false _ _ (sym c.is_empty.ensures ∙ c.if-is_empty.false) in
    let k : c.args.k ≡ 2 = c.requires.3 (omega arith) in
    let p : 2 ^ c.args.k ≡ 4 = ap (λ j. 2 ^ j) k in
    omega (arith, c.requires)

pub returns : goal.returns
returns c =
    let a = c.args in
    let n : length c.args.head.now ≢ 0 = eqb-false _ _ (sym c.is_empty.ensures ∙ c.if-is_empty.false) in
    let k : c.args.k ≡ 2 = c.requires.3 (omega arith) in
    let p : 2 ^ c.args.k ≡ 4 = ap (λ j. 2 ^ j) k in
    c.whole-2.ensures ∙ ap₂ (λ (j : ℕ) (l : List ℕ). whole_of j l a.t a.e) (ap (λ j. j - 2) (sym k)) (both_joined 4096 a.head.now a.tail.now _ (omega (arith, c.requires)) c.joined-b.ensures)
