-- One chain's rows anew among the rows of all: as words moved and written, and as the chains' rows over the front of the pool.
use mathlib.Core.Path.{◌≡◌, refl, sym, ap, ◌∙◌}
use Prim.Native.Nat.{ℕ, zero, suc, ◌+◌, ◌-◌, ◌*◌, ◌≤◌, ◌<◌}
use native.Mathlib.Omega.{arith}
use mathlib.Core.Bool.{Bool, true, false, cond}
use mathlib.Core.List.{List, [], ◌∷◌, ◌++◌, append_assoc, append-nil}
use lib.Dec.{eqb}
use lib.ListN.{length, take, drop, length-append}
use borrow.Author.Tests.{eqb-true, eqb-false, eq-eqb, ne_eqb}
use Rattle.table_rows.specs.Rows.{flat}
use Rattle.table_rows.specs.Table.{over}
use Rattle.table_rows.proofs.Rows.{flat_append}
use Rattle.table_rows.proofs.Table.{length_words}
use Rattle.table_waiting.specs.Waiting as waiting
use Rattle.table_waiting.specs.declared.Copy.{Copy}
use Rattle.table_waiting.proofs.Reading.{exact}
use Rattle.spec_chains.specs.Chains.{put}
use Rattle.spec_chains.specs.Slots.{joined}

-- ---- The chains behind i

later : ℕ → ℕ → (ℕ → List Copy) → List Copy
later zero i f = []
later (suc n) i f = cond (eqb n i) [] (later n i f ++ f n)

split : (n i : ℕ) (f : ℕ → List Copy) → i < n → joined n f ≡ joined i f ++ (f i ++ later n i f)
unfolding later
split zero i f h = absurd (omega arith)
split (suc n) i f h = go (eqb n i) refl (λ l. split n i f l)
  where
    go : (b : Bool) → eqb n i ≡ b → (i < n → joined n f ≡ joined i f ++ (f i ++ later n i f)) → joined n f ++ f n ≡ joined i f ++ (f i ++ cond b [] (later n i f ++ f n))
    go true e r = ap (λ (k : ℕ). joined k f ++ f k) (eqb-true n i e) ∙ ap (λ (l : List Copy). joined i f ++ l) (sym (append-nil (f i)))
    go false e r =
        let d = eqb-false n i e in
        ap (λ (l : List Copy). l ++ f n) (r (omega (arith, d, h)))
        ∙ append_assoc (joined i f) (f i ++ later n i f) (f n) ∙ ap (λ (l : List Copy). joined i f ++ l) (append_assoc (f i) (later n i f) (f n))

-- the chains before i, and those behind it, know nothing of it
same_before : (k i : ℕ) (f : ℕ → List Copy) (new : List Copy) → k ≤ i → joined k (put i new f) ≡ joined k f
same_before zero i f new h = refl
same_before (suc k) i f new h = (λ j. same_before k i f new (omega arith) j ++ ap (λ (b : Bool). cond b new (f k)) (ne_eqb k i (λ e. omega arith)) j)

same_later : (n i : ℕ) (f : ℕ → List Copy) (new : List Copy) → later n i (put i new f) ≡ later n i f
unfolding later
same_later zero i f new = refl
same_later (suc n) i f new = go (eqb n i) (same_later n i f new)
  where
    go : (b : Bool) → later n i (put i new f) ≡ later n i f → cond b [] (later n i (put i new f) ++ cond b new (f n)) ≡ cond b [] (later n i f ++ f n)
    go true r = refl
    go false r = ap (λ (l : List Copy). l ++ f n) r

split_put : (n i : ℕ) (f : ℕ → List Copy) (new : List Copy) → i < n → joined n (put i new f) ≡ joined i f ++ (new ++ later n i f)
split_put n i f new h =
    split n i (put i new f) h
    ∙ (λ j. same_before i i f new (omega arith) j ++ (ap (λ (b : Bool). cond b new (f i)) (eq-eqb i i refl) j ++ same_later n i f new j))

-- ---- Words

take_exact : (a b : List ℕ) (n : ℕ) → n ≡ length a → take n (a ++ b) ≡ a
take_exact [] b n h = rw h
take_exact (x ∷ a) b n h = rw h (ap (λ (l : List ℕ). x ∷ l) (take_exact a b (length a) refl))

drop_exact : (a b : List ℕ) (n : ℕ) → n ≡ length a → drop n (a ++ b) ≡ b
drop_exact [] b n h = rw h
drop_exact (x ∷ a) b n h = rw h (drop_exact a b (length a) refl)

back : (a o l r n pool : List ℕ) (s k e : ℕ) → pool ≡ a ++ (o ++ (l ++ r)) → s ≡ length a → k ≡ length o → e ≡ length a + length o + length l
    → take s pool ++ (n ++ (take (e - (s + k)) (drop (s + k) pool) ++ drop (e - k + length n) pool)) ≡ (a ++ (n ++ l)) ++ drop (length (a ++ (n ++ l))) pool
back a o l r n pool s k e p hs hk he =
    let t : take s pool ≡ a = ap (take s) p ∙ take_exact a (o ++ (l ++ r)) s hs in
    let ao : s + k ≡ length (a ++ o) = omega (arith, length-append a o) in
    let d : drop (s + k) pool ≡ l ++ r = ap (drop (s + k)) (p ∙ sym (append_assoc a o (l ++ r))) ∙ drop_exact (a ++ o) (l ++ r) (s + k) ao in
    let m : take (e - (s + k)) (drop (s + k) pool) ≡ l = ap (take (e - (s + k))) d ∙ take_exact l r (e - (s + k)) (omega arith) in
    let z : e - k + length n ≡ length (a ++ (n ++ l)) = omega (arith, length-append a (n ++ l), length-append n l) in
    (λ j. t j ++ (n ++ (m j ++ drop (z j) pool)))
    ∙ ap (λ (x : List ℕ). a ++ x) (sym (append_assoc n l (drop (length (a ++ (n ++ l))) pool)))
    ∙ sym (append_assoc a (n ++ l) (drop (length (a ++ (n ++ l))) pool))

flat_two : (x y : List Copy) → flat waiting.words (x ++ y) ≡ flat waiting.words x ++ flat waiting.words y
flat_two x y = flat_append waiting.width waiting.read waiting.words (λ c. true) exact.long exact.back x y

-- THE LAW: what `call_pooling::{grow, shrink}` write (`put_back`, on words) is `stand_next`'s pool; r are the unused words
pub rows_back : (n i : ℕ) (f : ℕ → List Copy) (new : List Copy) (pool r : List ℕ) → i < n → pool ≡ flat waiting.words (joined n f) ++ r
    → take (length (joined i f) * waiting.width) pool
    ++ (flat waiting.words new ++ (take (length (joined n f) * waiting.width - (length (joined i f) * waiting.width + length (f i) * waiting.width)) (drop (length (joined i f) * waiting.width + length (f i) * waiting.width) pool)
    ++ drop (length (joined n f) * waiting.width - length (f i) * waiting.width + length (flat waiting.words new)) pool))
    ≡ over waiting.form (joined n (put i new f)) pool
unfolding over
rows_back n i f new pool r h p =
    let a = flat waiting.words (joined i f) in
    let o = flat waiting.words (f i) in
    let l = flat waiting.words (later n i f) in
    let w = flat waiting.words new in
    let la = length_words waiting.form exact (joined i f) in
    let lo = length_words waiting.form exact (f i) in
    let ln = length_words waiting.form exact (joined n f) in
    let parts : flat waiting.words (joined n f) ≡ a ++ (o ++ l) = ap (flat waiting.words) (split n i f h) ∙ flat_two (joined i f) (f i ++ later n i f) ∙ ap (λ (x : List ℕ). a ++ x) (flat_two (f i) (later n i f)) in
    let whole : pool ≡ a ++ (o ++ (l ++ r)) = p ∙ ap (λ (x : List ℕ). x ++ r) parts ∙ append_assoc a (o ++ l) r ∙ ap (λ (x : List ℕ). a ++ x) (append_assoc o l r) in
    let long : length (joined n f) * waiting.width ≡ length a + length o + length l = sym ln ∙ ap length parts ∙ omega (arith, length-append a (o ++ l), length-append o l) in
    let now : flat waiting.words (joined n (put i new f)) ≡ a ++ (w ++ l) = ap (flat waiting.words) (split_put n i f new h) ∙ flat_two (joined i f) (new ++ later n i f) ∙ ap (λ (x : List ℕ). a ++ x) (flat_two new (later n i f)) in
    back a o l r w pool _ _ _ whole (sym la) (sym lo) long
    ∙ ap (λ (x : List ℕ). x ++ drop (length x) pool) (sym now)
    ∙ ap (λ (k : ℕ). flat waiting.words (joined n (put i new f)) ++ drop k pool) (length_words waiting.form exact (joined n (put i new f)))
