-- The cards of a written text.
use Rattle.std.proofs.Common.{◌≡◌, ℕ, suc, ◌-◌, ◌^◌, ◌<◌, ◌≤◌, Bool, true, false, cond, eqb, List, [], ◌∷◌, ◌++◌, map, length, get_or, Some, decimal, sym, refl, ap, ◌∙◌, append_assoc, append-nil, arith}
use Rattle.std.specs.Str.Parse.{digits_value}
use Rattle.std.specs.Char.{is_ascii_digit}
use Rattle.std.specs.List.{AllByRecursion}
use Rattle.std.specs.Str.{all_ascii_digits}
use Rattle.std.proofs.lemmas.Fmt.{digits_decimal, digits_value-decimal, length-decimal-le, decimal_nonempty}
use Rattle.std.proofs.lemmas.Bool.{eq-eqb, ne_eqb, and_from, and_parts, le-leb}
use Rattle.std.proofs.lemmas.Bool.Decides.{nat_tests}
use Rattle.deck.specs.Words.{cut_at, words, lines, number_of, numbers_in}
use Rattle.deck.specs.Cards.{Keyword, nodes, branch, failed, working, door, spelled, numbers_for, Reading, card, card_by, card_on, cards}
use Rattle.deck.specs.Laws.{spaced, text}
use Rattle.deck.proofs.Numbers.{own}
use Rattle.deck.proofs.Titles.{spelled_back}

-- does the word lack the byte sep?
abbrev lacks : ℕ → List ℕ → Bool
lacks sep [] = true
lacks sep (c ∷ cs) = cond (eqb c sep) false (lacks sep cs)

lacks-parts : (b x : Bool) → cond b false x ≡ true → (b ≡ false) × (x ≡ true)
lacks-parts true x h = absurd cc
lacks-parts false x h = (refl, h)

lacks-append : (sep : ℕ) (a b : List ℕ) → lacks sep a ≡ true → lacks sep b ≡ true → lacks sep (a ++ b) ≡ true
lacks-append sep [] b h k = k
lacks-append sep (c ∷ a) b h k =
    let p = lacks-parts (eqb c sep) (lacks sep a) h in
    let e = p.0 in
    rw e (lacks-append sep a b p.1 k)

digit-least : (c : ℕ) → is_ascii_digit c ≡ true → 48 ≤ c
digit-least c h = grind (arith, nat_tests)

lacks-digits : (sep : ℕ) (w : List ℕ) → sep < 48 → all_ascii_digits w ≡ true → lacks sep w ≡ true
lacks-digits sep [] l h = refl
lacks-digits sep (c ∷ cs) l h =
    let p = and_parts (is_ascii_digit c) (all_ascii_digits cs) h in
    let least = digit-least c p.0 in
    let e = ne_eqb c sep (λ same. omega arith) in
    rw e (lacks-digits sep cs l p.1)

lacks-decimal : (sep n : ℕ) → sep < 48 → n < 2 ^ 32 → lacks sep (decimal n) ≡ true
lacks-decimal sep n l h = lacks-digits sep (decimal n) l (digits_decimal own n (omega arith))

-- a piece that lacks the separator
cut-piece : (sep : ℕ) (after : List (List ℕ)) (p rest : List ℕ) → lacks sep p ≡ true → cut_at sep after (p ++ sep ∷ rest) ≡ p ∷ cut_at sep after rest
cut-piece sep after [] rest h = let e = eq-eqb sep sep refl in rw e
cut-piece sep after (c ∷ p) rest h =
    let q = lacks-parts (eqb c sep) (lacks sep p) h in
    let e = q.0 in
    let more = cut-piece sep after p rest q.1 in
    rw (e, more)

last_word : (p : List ℕ) → lacks 32 p ≡ true → words p ≡ p ∷ []
last_word [] h = refl
last_word (c ∷ p) h =
    let q = lacks-parts (eqb c 32) (lacks 32 p) h in
    let e = q.0 in
    let more = last_word p q.1 in
    rw (e, more)

abbrev pub Small : List ℕ → Type 0
Small ns = AllByRecursion (λ n. n < 2 ^ 32) ns

words-spaced : (p ns : List ℕ) → Small ns → lacks 32 p ≡ true → words (p ++ spaced ns) ≡ p ∷ map decimal ns
words-spaced p [] s h = ap words (append-nil p) ∙ last_word p h
words-spaced p (n ∷ ns) s h =
    cut-piece 32 ([] ∷ []) p (decimal n ++ spaced ns) h ∙ ap (λ ws. p ∷ ws) (words-spaced (decimal n) ns s.1 (lacks-decimal 32 n (omega arith) s.0))

lacks-spaced : (ns : List ℕ) → Small ns → lacks 10 (spaced ns) ≡ true
lacks-spaced [] s = refl
lacks-spaced (n ∷ ns) s = lacks-append 10 (decimal n) (spaced ns) (lacks-decimal 10 n (omega arith) s.0) (lacks-spaced ns s.1)

-- numbers come back from their digits
number-reads : (w : List ℕ) (n : ℕ) → 0 < length w → length w ≤ 10 → all_ascii_digits w ≡ true → digits_value 10 w ≡ n → n < 2 ^ 32 → number_of w ≡ Some n
number-reads w n some short digits is small =
    let passes = and_from _ _ (and_from _ _ (and_from _ _ (le-leb 1 (length w) (omega arith)) (le-leb (length w) 10 short)) digits) (le-leb (digits_value 10 w) 4294967295 (omega arith)) in
    rw (passes, is)

number-back : (n : ℕ) → n < 2 ^ 32 → number_of (decimal n) ≡ Some n
number-back n h =
    number-reads (decimal n) n (decimal_nonempty n (omega arith)) (length-decimal-le 10 n (omega arith) (omega arith) (omega arith)) (digits_decimal own n (omega arith)) (digits_value-decimal own n (omega arith)) h

numbers-back : (ns : List ℕ) → Small ns → numbers_in (length ns) (map decimal ns) ≡ Some ns
numbers-back [] s = refl
numbers-back (n ∷ ns) s =
    let one = number-back n s.0 in
    let more = numbers-back ns s.1 in
    rw (one, more)

-- the card of a line, and those of a text
pub record Writable (c : Keyword × List ℕ) : Type 0 where
  pub count : length c.1 ≡ numbers_for c.0
  pub small : Small c.1

abbrev pub shown : Keyword × List ℕ → Reading
shown c = card c.0 (Some c.1)

lacks-spelled : (k : Keyword) → (lacks 10 (spelled k) ≡ true) × (lacks 32 (spelled k) ≡ true)
lacks-spelled nodes = (refl, refl)
lacks-spelled branch = (refl, refl)
lacks-spelled failed = (refl, refl)
lacks-spelled working = (refl, refl)
lacks-spelled door = (refl, refl)

card-back : (c : Keyword × List ℕ) → Writable c → card_on (words (spelled c.0 ++ spaced c.1)) ≡ shown c
card-back c w =
    ap card_on (words-spaced (spelled c.0) c.1 w.small (lacks-spelled c.0).1) ∙ ap (λ o. card_by o (map decimal c.1)) (spelled_back c.0)
    ∙ ap (λ n. card c.0 (numbers_in n (map decimal c.1))) (sym w.count) ∙ ap (card c.0) (numbers-back c.1 w.small)

pub cards-text : (cs : List (Keyword × List ℕ)) → AllByRecursion Writable cs → cards (text cs) ≡ map shown cs
cards-text [] h = refl
cards-text (c ∷ cs) h =
    let line = lacks-append 10 (spelled c.0) (spaced c.1) (lacks-spelled c.0).0 (lacks-spaced c.1 h.0.small) in
    let cut = ap lines (sym (append_assoc (spelled c.0) (spaced c.1) (10 ∷ text cs))) ∙ cut-piece 10 [] (spelled c.0 ++ spaced c.1) (text cs) line in
    ap (map (λ l. card_on (words l))) cut ∙ ap (λ r. r ∷ cards (text cs)) (card-back c h.0) ∙ ap (λ rs. shown c ∷ rs) (cards-text cs h.1)

-- a text ends with byte 10
pub record Ends (bs : List ℕ) : Type 0 where
  pub some : 0 < length bs
  pub last : get_or bs (length bs - 1) 0 ≡ 10

ends-cons : (x : ℕ) (bs : List ℕ) → Ends bs → Ends (x ∷ bs)
ends-cons x bs e = record {
  some = omega arith;
  last = let place : length (x ∷ bs) - 1 ≡ suc (length bs - 1) = omega (arith, e.some) in ap (λ i. get_or (x ∷ bs) i 0) place ∙ e.last;
}

ends-append : (a bs : List ℕ) → Ends bs → Ends (a ++ bs)
ends-append [] bs e = e
ends-append (x ∷ a) bs e = ends-cons x (a ++ bs) (ends-append a bs e)

pub ends-text : (c : Keyword × List ℕ) (cs : List (Keyword × List ℕ)) → Ends (text (c ∷ cs))
ends-text c [] = ends-append (spelled c.0) _ (ends-append (spaced c.1) _ (record { some = omega arith; last = refl }))
ends-text c (d ∷ cs) = ends-append (spelled c.0) _ (ends-append (spaced c.1) _ (ends-cons 10 _ (ends-text d cs)))
