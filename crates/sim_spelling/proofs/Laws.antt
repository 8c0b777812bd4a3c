-- The first word of a text, and the words behind it.
use Rattle.std.proofs.Common.{◌≡◌, ℕ, Bool, true, false, not, List, [], ◌∷◌, length, take, drop, eqb, refl, sym, ap, subst, ◌∙◌, position, one-add, length-drop, ◌<◌, Some, None, arith, unwrap_or}
use Rattle.std.proofs.lemmas.Grind.{common_steps}
use Rattle.std.proofs.lemmas.List.{at_drop_all}
use Rattle.std.proofs.lemmas.List.Sums.{prefix_len-le-length}
use Rattle.std.specs.List.{filter, slice_split, onto_first, position_or_len}
use Rattle.sim_spelling.specs.Spelling.{blank, has_bytes, words_in}

-- where the first word of a text begins, and where the word at its start ends
abbrev pub start : List ℕ → ℕ
start s = position_or_len (λ b. not (blank b)) s

abbrev pub end : List ℕ → ℕ
end t = unwrap_or (position blank t) (length t)

-- blanks in front leave the words
skip_on : (x : ℕ) (s : List ℕ) (b : Bool) → blank x ≡ b → words_in (drop (start s) s) ≡ words_in s → words_in (drop (start (x ∷ s)) (x ∷ s)) ≡ words_in (x ∷ s)
unfolding words_in
skip_on x s true e h = rw (e, one-add) h
skip_on x s false e h = rw (e, e) refl

skip : (s : List ℕ) → words_in (drop (start s) s) ≡ words_in s
skip [] = refl
skip (x ∷ s) = skip_on x s (blank x) refl (skip s)

-- the parts behind the first one that blanks cut off, and the words that are left behind it
record First (s : List ℕ) : Type 0 where
  others : List (List ℕ)
  cut : slice_split blank s ≡ take (position_or_len blank s) s ∷ others
  rest : words_in (drop (position_or_len blank s) s) ≡ filter has_bytes others

first_on : (x : ℕ) (s : List ℕ) (b : Bool) → blank x ≡ b → First s → First (x ∷ s)
unfolding words_in
first_on x s true e h = record { others = slice_split blank s; cut = rw e refl; rest = rw (e, e) refl }
first_on x s false e h = record { others = h.others; cut = rw (e, one-add) (ap (onto_first x) (h.cut)); rest = rw (e, one-add) (h.rest) }

first : (s : List ℕ) → First s
unfolding words_in
first [] = record { others = []; cut = refl; rest = refl }
first (x ∷ s) = first_on x s (blank x) refl (first s)

-- the word that a text begins with
head_at : (x : ℕ) (s : List ℕ) → blank x ≡ false → First s → words_in (x ∷ s) ≡ take (position_or_len blank (x ∷ s)) (x ∷ s) ∷ words_in (drop (position_or_len blank (x ∷ s)) (x ∷ s))
unfolding words_in
head_at x s e h = rw (e, h.cut, one-add) (ap (λ ws. (x ∷ take (position_or_len blank s) s) ∷ ws) (sym (h.rest)))

head : (x : ℕ) (s : List ℕ) → blank x ≡ false → words_in (x ∷ s) ≡ take (position_or_len blank (x ∷ s)) (x ∷ s) ∷ words_in (drop (position_or_len blank (x ∷ s)) (x ∷ s))
head x s e = head_at x s e (first s)

-- where the first byte that is no blank stands
record Begins (s : List ℕ) : Type 0 where
  byte : ℕ
  others : List ℕ
  is : drop (start s) s ≡ byte ∷ others
  marks : blank byte ≡ false

begins_left : (x : ℕ) (s : List ℕ) → blank x ≡ true → start (x ∷ s) < length (x ∷ s) → start s < length s
begins_left x s e l = grind (arith, common_steps, e, l)

begins_more : (x : ℕ) (s : List ℕ) → blank x ≡ true → Begins s → Begins (x ∷ s)
begins_more x s e b = record { byte = b.byte; others = b.others; is = rw (e, one-add) (b.is); marks = b.marks }

begins_on : (x : ℕ) (s : List ℕ) (b : Bool) → blank x ≡ b → (start s < length s → Begins s) → start (x ∷ s) < length (x ∷ s) → Begins (x ∷ s)
begins_on x s true e h l = begins_more x s e (h (begins_left x s e l))
begins_on x s false e h l = record { byte = x; others = s; is = rw e refl; marks = e }

begins : (s : List ℕ) → start s < length s → Begins s
begins [] l = absurd (omega (arith, l))
begins (x ∷ s) l = begins_on x s (blank x) refl (begins s) l

-- no words where the text is blank
pub no_words : (s : List ℕ) → position (λ b. not (blank b)) s ≡ None → words_in s ≡ []
unfolding words_in
no_words s h = sym (skip s) ∙ at_drop_all words_in s (start s) (grind (arith, common_steps, h))

word_end : (t : List ℕ) → end t ≡ position_or_len blank t
word_end t = let l = prefix_len-le-length (λ b. not (blank b)) t in grind (arith, common_steps, l)

word_start : (s : List ℕ) (i : ℕ) → position (λ b. not (blank b)) s ≡ Some i → (start s < length s) × (i ≡ start s)
word_start s i h = grind (arith, common_steps, h)

word_of : (t : List ℕ) (x : ℕ) (s : List ℕ) → t ≡ x ∷ s → blank x ≡ false → words_in t ≡ take (end t) t ∷ words_in (drop (end t) t)
word_of t x s e m =
    subst (λ n. words_in t ≡ take n t ∷ words_in (drop n t)) (sym (word_end t))
    (subst (λ v. words_in v ≡ take (position_or_len blank v) v ∷ words_in (drop (position_or_len blank v) v)) (sym e) (head x s m))

-- the first word, and those behind it
pub next_word : (s : List ℕ) (i : ℕ) → position (λ b. not (blank b)) s ≡ Some i → words_in s ≡ take (end (drop i s)) (drop i s) ∷ words_in (drop (end (drop i s)) (drop i s))
next_word s i h =
    let at = word_start s i h in
    let b = begins s (at.0) in
    let same : drop i s ≡ drop (start s) s = ap (λ k. drop k s) (at.1) in
    sym (skip s) ∙ ap words_in (sym same) ∙ word_of (drop i s) (b.byte) (b.others) (same ∙ b.is) (b.marks)

length_behind : (x : ℕ) (s : List ℕ) → blank x ≡ false → length (drop (position_or_len blank (x ∷ s)) (x ∷ s)) < length (x ∷ s)
length_behind x s e = rw (e, one-add) (let l = length-drop (position_or_len blank s) s in omega (arith, l))

length_left : (t : List ℕ) (x : ℕ) (s : List ℕ) → t ≡ x ∷ s → blank x ≡ false → length (drop (end t) t) < length t
length_left t x s e m = subst (λ n. length (drop n t) < length t) (sym (word_end t)) (subst (λ v. length (drop (position_or_len blank v) v) < length v) (sym e) (length_behind x s m))

-- a word is taken off a text
pub shorter : (s : List ℕ) (i : ℕ) → position (λ b. not (blank b)) s ≡ Some i → length (drop (end (drop i s)) (drop i s)) < length s
shorter s i h =
    let at = word_start s i h in
    let b = begins s (at.0) in
    let same : drop i s ≡ drop (start s) s = ap (λ k. drop k s) (at.1) in
    let l = length_left (drop i s) (b.byte) (b.others) (same ∙ b.is) (b.marks) in
    let m = length-drop i s in
    omega (arith, l, m)
