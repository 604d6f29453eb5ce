-- The first word of a line and the rest.
use Rattle.std.proofs.Common.{◌≡◌, ℕ, suc, ◌+◌, ◌-◌, ◌<◌, ◌≤◌, true, false, cond, eqb, not, List, [], ◌∷◌, ◌++◌, length, take, drop, set, Some, None, Option, sym, refl, ap, ◌∙◌, ⊎_elim, append_assoc, arith, length-drop}
use Rattle.std.proofs.lemmas.List.{take_rest, take_more_set}
use Rattle.std.proofs.lemmas.List.Sums.{take_while-cons}
use Rattle.std.proofs.lemmas.Bool.{cases_Bool, eqb-false}
use Rattle.deck.specs.Words.{words, lines, length_before, ends_word, tail_words, number_of, numbers_in, prefixed}

before_cons : (sep c : ℕ) (cs : List ℕ) → length_before sep (c ∷ cs) ≡ cond (eqb c sep) 0 (suc (length_before sep cs))
before_cons sep c cs =
    let step = ap length (take_while-cons (λ d. not (eqb d sep)) c cs) in
    ⊎_elim (λ (e : eqb c sep ≡ true). rw (step, e)) (λ (e : eqb c sep ≡ false). rw (step, e)) (cases_Bool (eqb c sep))

-- the first word, and the words after it
pub first_word : (bs : List ℕ) → words bs ≡ take (length_before 32 bs) bs ∷ tail_words (drop (length_before 32 bs) bs)
first_word [] = refl
first_word (c ∷ cs) =
    let more = first_word cs in
    rw (before_cons 32 c cs) (⊎_elim (λ (e : eqb c 32 ≡ true). rw e) (λ (e : eqb c 32 ≡ false). rw (e, more)) (cases_Bool (eqb c 32)))

pub word-ends : (bs : List ℕ) → ends_word (drop (length_before 32 bs) bs) ≡ true
word-ends [] = refl
word-ends (c ∷ cs) = rw (before_cons 32 c cs) (⊎_elim (λ (e : eqb c 32 ≡ true). rw e e) (λ (e : eqb c 32 ≡ false). rw e (word-ends cs)) (cases_Bool (eqb c 32)))

-- what a space and a word leave
pub next_word : (text rest word more : List ℕ) (k : ℕ) → 1 ≤ length text → rest ≡ take (length text - 1) (drop 1 text) → k ≡ length_before 32 rest → word ≡ take k rest → more ≡ drop k rest
    → (ends_word more ≡ true) × (tail_words text ≡ word ∷ tail_words more)
next_word [] rest word more k l e is w m = absurd (omega arith)
next_word (c ∷ cs) rest word more k l e is w m =
    let all : cs ≡ rest = sym (e ∙ take_rest (c ∷ cs) 1) in
    (rw (m, is) (word-ends rest), ap words all ∙ rw (w, m, is) (first_word rest))

-- the first line, and the lines after it; byte 10 may lack at the end of the last one
pub first-line : (bs : List ℕ) → 0 < length bs → lines bs ≡ take (length_before 10 bs) bs ∷ lines (drop 1 (drop (length_before 10 bs) bs))
first-line [] l = absurd (omega arith)
first-line (c ∷ []) l = rw (before_cons 10 c []) (⊎_elim (λ (e : eqb c 10 ≡ true). rw e) (λ (e : eqb c 10 ≡ false). rw e) (cases_Bool (eqb c 10)))
first-line (c ∷ d ∷ cs) l =
    let more = first-line (d ∷ cs) (omega arith) in
    rw (before_cons 10 c (d ∷ cs)) (⊎_elim (λ (e : eqb c 10 ≡ true). rw e) (λ (e : eqb c 10 ≡ false). rw (e, more)) (cases_Bool (eqb c 10)))

pub next_line : (rest line after : List ℕ) (k : ℕ) → false ≡ eqb (length rest) 0 → k ≡ length_before 10 rest → line ≡ take k rest → after ≡ drop 1 (drop k rest) → (lines rest ≡ line ∷ lines after) × (length after + 1 ≤ length rest)
next_line rest line after k some is l a =
    let long = eqb-false (length rest) 0 (sym some) in
    (rw (l, a, is) (first-line rest (omega arith)), omega (arith, ap length a, length-drop 1 (drop k rest), length-drop k rest))

-- the numbers ns, and then those to come
abbrev pub after : List ℕ → Option (List ℕ) → Option (List ℕ)
after ns None = None
after ns (Some ms) = Some (ns ++ ms)

after_more : (ns : List ℕ) (n : ℕ) (o : Option (List ℕ)) → after ns (prefixed (Some n) o) ≡ after (ns ++ n ∷ []) o
after_more ns n None = refl
after_more ns n (Some ms) = ap Some (sym (append_assoc ns (n ∷ []) ms))

-- one number more
pub number_more : (n k : ℕ) (all : List ℕ) (start : Option (List ℕ)) (left ws : List (List ℕ)) (w : List ℕ) (v : ℕ) → k < n → length all ≡ n → start ≡ after (take k all) (numbers_in (n - k) left) → left ≡ w ∷ ws → Some v ≡ number_of w →
    start ≡ after (take (k + 1) (set all k v)) (numbers_in (n - (k + 1)) ws)
number_more n k all start left ws w v l long h next is =
    let one : n - k ≡ suc (n - (k + 1)) = omega arith in
    h ∙ ap (λ vs. after (take k all) (numbers_in (n - k) vs)) next ∙ ap (λ m. after (take k all) (numbers_in m (w ∷ ws))) one ∙ ap (λ o. after (take k all) (prefixed o (numbers_in (n - (k + 1)) ws))) (sym is)
    ∙ after_more (take k all) v (numbers_in (n - (k + 1)) ws) ∙ ap (λ ns. after ns (numbers_in (n - (k + 1)) ws)) (sym (take_more_set all k v (omega arith)))
