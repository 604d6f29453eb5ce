-- The words of a line, from the word that a slice pattern found at its front.
use Rattle.std.proofs.Common.{◌≡◌, ℕ, true, false, eqb, List, [], ◌∷◌, ◌++◌, take, drop, Some, None, Ok, Err, Result, MatchResult, sym, refl, ap, ◌∙◌, ⊎_elim, take-append-drop}
use Rattle.std.proofs.lemmas.Bool.{eqb-true, cases_Bool, and_parts, cond-false, both_ways}
use Rattle.deck.specs.Words.{words, length_before, ends_word, tail_words, numbers_in}
use Rattle.deck.specs.Cards.{Keyword, nodes, branch, failed, working, door, spelled, numbers_for, same, keyword_for, unknown, card, card_by, card_on}
use Rattle.refusals.specs.declared.deck_fault.DeckFault.{DeckFault}
use Rattle.refusals.specs.declared.deck_fault.DeckFault.TheVariants.{Word}
use Rattle.deck.specs.Drafts.{Begins, Lacks, Titled, Untitled}
use Rattle.deck.specs.declared.card.Card.{Card}
use Rattle.deck.proofs.Pieces.{first_word, word-ends}

ends_words : (rest : List ℕ) → ends_word rest ≡ true → words rest ≡ [] ∷ tail_words rest
ends_words [] h = refl
ends_words (c ∷ cs) h = rw h

begins-words : (k : Keyword) (rest : List ℕ) → ends_word rest ≡ true → words (spelled k ++ rest) ≡ spelled k ∷ tail_words rest
begins-words nodes rest h = rw (ends_words rest h)
begins-words branch rest h = rw (ends_words rest h)
begins-words failed rest h = rw (ends_words rest h)
begins-words working rest h = rw (ends_words rest h)
begins-words door rest h = rw (ends_words rest h)

pub spelled_back : (k : Keyword) → keyword_for (spelled k) ≡ Some k
spelled_back nodes = refl
spelled_back branch = refl
spelled_back failed = refl
spelled_back working = refl
spelled_back door = refl

pub titled-card : (k : Keyword) (bs rest : List ℕ) → Begins k bs rest → card_on (words bs) ≡ card k (numbers_in (numbers_for k) (tail_words rest))
titled-card k bs rest b = ap (λ l. card_on (words l)) b.whole ∙ ap card_on (begins-words k rest b.ends) ∙ ap (λ o. card_by o (tail_words rest)) (spelled_back k)

same-is : (xs ys : List ℕ) → same xs ys ≡ true → xs ≡ ys
same-is [] [] e = refl
same-is [] (y ∷ ys) e = absurd (both_ways false refl e)
same-is (x ∷ xs) [] e = absurd (both_ways false refl e)
same-is (x ∷ xs) (y ∷ ys) e = let p = and_parts (eqb x y) (same xs ys) e in let q = eqb-true x y p.0 in let r = same-is xs ys p.1 in cc

module _ (bs : List ℕ) (un : Untitled bs) where
  other : (w : Keyword) → same (take (length_before 32 bs) bs) (spelled w) ≡ false
  other w = ⊎_elim
      (λ e. absurd (un w (drop (length_before 32 bs) bs) (record { whole = sym (take-append-drop (length_before 32 bs) bs) ∙ ap (λ t. t ++ drop (length_before 32 bs) bs) (same-is (take (length_before 32 bs) bs) (spelled w) e); ends = word-ends bs })))
      (λ e. e)
      (cases_Bool (same (take (length_before 32 bs) bs) (spelled w)))

  no-keyword : keyword_for (take (length_before 32 bs) bs) ≡ None
  no-keyword = cond-false _ _ _ (other nodes) ∙ cond-false _ _ _ (other branch) ∙ cond-false _ _ _ (other failed) ∙ cond-false _ _ _ (other working) ∙ cond-false _ _ _ (other door)

  pub untitled-card : card_on (words bs) ≡ unknown
  untitled-card = ap card_on (first_word bs) ∙ ap (λ o. card_by o (tail_words (drop (length_before 32 bs) bs))) no-keyword

-- none of the five words, where the first two are lacking and an answer speaks of the other three
pub two-lacked : (bs : List ℕ) (line : ℕ) (r : Result Card DeckFault) → Lacks nodes bs → Lacks branch bs
    → MatchResult r (λ found. Titled bs line found) (λ fault. (fault ≡ Word) × (Lacks failed bs × Lacks working bs × Lacks door bs))
    → MatchResult r (λ found. Titled bs line found) (λ fault. (fault ≡ Word) × Untitled bs)
two-lacked bs line (Ok found) no_nodes no_branch h = h
two-lacked bs line (Err fault) no_nodes no_branch h = (
  h.0,
  λ k. elim k as (λ k. Lacks k bs) [
    | nodes ↦ no_nodes
    | branch ↦ no_branch
    | failed ↦ h.1.0
    | working ↦ h.1.1
    | door ↦ h.1.2
  ],
)
