-- The numbers of a line, one after another.
use Rattle.std.proofs.Common.{◌≡◌, ℕ, zero, suc, ◌+◌, ◌*◌, ◌<◌, ◌≤◌, List, [], ◌∷◌, ◌++◌, length, decimal, sym, refl, ap, ◌∙◌, append_assoc, subst, arith, length-append}
use Rattle.std.specs.List.{AllByRecursion}
use Rattle.std.proofs.ByRecursion.{All-append, All-weaker}
use Rattle.std.proofs.lemmas.Bool.{cond_both}
use Rattle.std.proofs.lemmas.Fmt.{length-decimal-le}
use Rattle.cut_line.specs.Cuts.{spaced}
use Rattle.sets.specs.Masks.{has, members}

pub spaced-append : (ms ns : List ℕ) → spaced (ms ++ ns) ≡ spaced ms ++ spaced ns
spaced-append [] ns = refl
spaced-append (m ∷ ms) ns = ap (λ t. 32 ∷ (decimal m ++ t)) (spaced-append ms ns) ∙ ap (λ t. 32 ∷ t) (sym (append_assoc (decimal m) (spaced ms) (spaced ns)))

-- the members below n are at most n, each below n

length-members : (n S : ℕ) → length (members n S) ≤ n
unfolding members
length-members zero S = omega arith
length-members (suc n) S =
    let few = length-members n S in
    rw length-append (cond_both (has S n) (n ∷ []) [] (λ ns. length (members n S) + length ns ≤ suc n) (λ _. omega arith) (λ _. omega arith))

members-below : (n S : ℕ) → AllByRecursion (λ k. k < n) (members n S)
unfolding members
members-below zero S = tt
members-below (suc n) S =
    All-append (λ k. k < suc n) (members n S) _ (All-weaker (λ k. k < n) (λ k. k < suc n) (λ k l. omega arith) (members n S) (members-below n S))
    (cond_both (has S n) (n ∷ []) [] (AllByRecursion (λ k. k < suc n)) (λ _. (omega arith, tt)) (λ _. tt))

-- numbers below n of at most two digits take three bytes each with their spaces
length-spaced : (n : ℕ) (ks : List ℕ) → n ≤ 100 → AllByRecursion (λ k. k < n) ks → length (spaced ks) ≤ 3 * length ks
length-spaced n [] two all = omega arith
length-spaced n (k ∷ ks) two all =
    let digits = length-decimal-le 2 k (omega arith) (omega arith) (omega (arith, all.0)) in
    let more = length-spaced n ks two all.1 in
    omega (arith, length-append (decimal k) (spaced ks))

front-below : (n k : ℕ) (ks rest : List ℕ) → AllByRecursion (λ j. j < n) (ks ++ k ∷ rest) → AllByRecursion (λ j. j < n) ks × (k < n)
front-below n k [] rest all = (tt, all.0)
front-below n k (j ∷ ks) rest all = let front = front-below n k ks rest all.1 in ((all.0, front.0), front.1)

-- a member, and the room that the ones before it leave
pub member_fits : (n S k : ℕ) (ks rest : List ℕ) → n ≤ 64 → members n S ≡ ks ++ k ∷ rest → (length (spaced ks) + 3 ≤ 3 * n) × (k < n)
member_fits n S k ks rest few parts =
    let below = front-below n k ks rest (subst (AllByRecursion (λ j. j < n)) parts (members-below n S)) in
    (omega (arith, length-members n S, ap length parts, length-append ks (k ∷ rest), length-spaced n ks (omega arith) below.0), below.1)

pub members_fit : (n S : ℕ) → n ≤ 64 → length (spaced (members n S)) ≤ 3 * n
members_fit n S few = omega (arith, length-members n S, length-spaced n (members n S) (omega arith) (members-below n S))
