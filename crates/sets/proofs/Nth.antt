-- What stands at a place of a list, as an Option.
use Rattle.std.proofs.Common.{◌≡◌, ℕ, zero, suc, ◌+◌, ◌-◌, ◌<◌, ◌≤◌, List, [], ◌∷◌, ◌++◌, map, length, get_or, take, drop, IfSome, Some, None, fold, Option, sym, refl, ap, ◌∙◌, subst, suc-add, arith}
use Rattle.std.specs.List.{slice_get, range_with_len, AllByRecursion}
use Rattle.std.specs.Option.{option_map}
use Rattle.std.proofs.lemmas.List.FromFn.{length-map-range_with_len, get_or-map-range_with_len}
use Rattle.std.proofs.lemmas.List.Sums.{fold_push}
use Rattle.std.proofs.lemmas.Option.{slice_get-get_or, slice_get_past}

pub mapped-id : {X : Type 0} (o : Option X) → o ≡ option_map (λ x. x) o
mapped-id None = refl
mapped-id (Some x) = refl

pub nth-map : {X Y : Type 0} (f : X → Y) (xs : List X) (k : ℕ) → slice_get (map f xs) k ≡ option_map f (slice_get xs k)
nth-map f [] k = refl
nth-map f (x ∷ xs) zero = refl
nth-map f (x ∷ xs) (suc k) = nth-map f xs k

pub nth-append-left : {X : Type 0} (xs ys : List X) (k : ℕ) → k < length xs → slice_get (xs ++ ys) k ≡ slice_get xs k
nth-append-left [] ys k h = absurd (omega arith)
nth-append-left (x ∷ xs) ys zero h = refl
nth-append-left (x ∷ xs) ys (suc k) h = nth-append-left xs ys k (omega arith)

pub nth-append-add : {X : Type 0} (xs ys : List X) (k : ℕ) → slice_get (xs ++ ys) (length xs + k) ≡ slice_get ys k
nth-append-add [] ys k = ap (slice_get ys) (omega arith)
nth-append-add (x ∷ xs) ys k =
    let e : suc (length xs) + k ≡ suc (length xs + k) = omega arith in ap (slice_get (x ∷ (xs ++ ys))) e ∙ nth-append-add xs ys k

pub nth-append-right : {X : Type 0} (xs ys : List X) (k : ℕ) → length xs ≤ k → slice_get (xs ++ ys) k ≡ slice_get ys (k - length xs)
nth-append-right xs ys k h =
    let e : k ≡ length xs + (k - length xs) = omega arith in ap (slice_get (xs ++ ys)) e ∙ nth-append-add xs ys (k - length xs)

-- a list made from a function of the index
pub nth-map-counting : {X : Type 0} (f : ℕ → X) (n k : ℕ) → k < n → slice_get (map f (range_with_len 0 n)) k ≡ Some (f k)
nth-map-counting f n k h =
    slice_get-get_or (map f (range_with_len 0 n)) k (f k) (rw length-map-range_with_len h) ∙ ap Some (get_or-map-range_with_len f 0 n k k (f k) h (omega arith))

pub nth-map-counting-past : {X : Type 0} (f : ℕ → X) (n k : ℕ) → n ≤ k → slice_get (map f (range_with_len 0 n)) k ≡ None
nth-map-counting-past f n k h = slice_get_past (map f (range_with_len 0 n)) k (rw length-map-range_with_len h)

-- what holds of each element holds of the one at k
pub all-nth : {X : Type 0} (P : X → Type 0) (xs : List X) (k : ℕ) (x : X) → AllByRecursion P xs → slice_get xs k ≡ Some x → P x
all-nth P [] k x h e = absurd (let z : ◌≡◌ {A = ℕ} 0 1 = cc in omega arith)
all-nth P (y ∷ ys) zero x h e = let z : y ≡ x = cc in subst P z h.0
all-nth P (y ∷ ys) (suc k) x h e = all-nth P ys k x h.1 e

-- a loop over the places: one element more, or none left
pub take_nth : {X : Type 0} (xs : List X) (k : ℕ) (x : X) → Some x ≡ slice_get xs k → take (k + 1) xs ≡ take k xs ++ (x ∷ [])
take_nth [] k x e = absurd (let z : ◌≡◌ {A = ℕ} 0 1 = cc in omega arith)
take_nth (y ∷ ys) zero x e = let z : y ≡ x = cc in ap (λ w. w ∷ []) z
take_nth (y ∷ ys) (suc k) x e = simp suc-add (ap (λ zs. y ∷ zs) (take_nth ys k x e))

pub take-nth-none : {X : Type 0} (xs : List X) (k : ℕ) → None ≡ slice_get xs k → take (k + 1) xs ≡ take k xs
take-nth-none [] zero e = refl
take-nth-none [] (suc k) e = simp suc-add
take-nth-none (y ∷ ys) zero e = absurd (let z : ◌≡◌ {A = ℕ} 0 1 = cc in omega arith)
take-nth-none (y ∷ ys) (suc k) e = simp suc-add (ap (λ zs. y ∷ zs) (take-nth-none ys k e))

pub drop_nth : {X : Type 0} (xs : List X) (k : ℕ) (x : X) → Some x ≡ slice_get xs k → drop k xs ≡ x ∷ drop (k + 1) xs
drop_nth [] k x e = absurd (let z : ◌≡◌ {A = ℕ} 0 1 = cc in omega arith)
drop_nth (y ∷ ys) zero x e = let z : y ≡ x = cc in ap (λ w. w ∷ ys) z
drop_nth (y ∷ ys) (suc k) x e = simp suc-add (drop_nth ys k x e)

pub cases-nth : {X : Type 0} (P : X → Type 0) (xs : List X) (k : ℕ) (o : Option X) → o ≡ slice_get xs k → AllByRecursion P xs → IfSome o P
cases-nth P xs k None e h = tt
cases-nth P xs k (Some x) e h = all-nth P xs k x h (sym e)

-- a fold over the places: one element more, or none left
module _ {X Y : Type 0} (f : Y → X → Y) (a : Y) (xs : List X) (k : ℕ) where
  pub folded-nth : (x : X) → Some x ≡ slice_get xs k → fold f a (take (k + 1) xs) ≡ f (fold f a (take k xs)) x
  folded-nth x e = ap (fold f a) (take_nth xs k x e) ∙ fold_push f a (take k xs) x

  pub folded-nth-none : None ≡ slice_get xs k → fold f a (take (k + 1) xs) ≡ fold f a (take k xs)
  folded-nth-none e = ap (fold f a) (take-nth-none xs k e)

-- within a list there is an element
pub some_below : {X : Type 0} (xs : List X) (k : ℕ) → k < length xs → slice_get xs k ≡ None → ⊥
some_below [] k h e = omega arith
some_below (x ∷ xs) zero h e = let z : ◌≡◌ {A = ℕ} 0 1 = cc in omega arith
some_below (x ∷ xs) (suc k) h e = some_below xs k (omega arith) e

pub below-some : {X : Type 0} (xs : List X) (k : ℕ) (x : X) → slice_get xs k ≡ Some x → k < length xs
below-some [] k x e = let z : ◌≡◌ {A = ℕ} 0 1 = cc in absurd (omega arith)
below-some (y ∷ ys) zero x e = omega arith
below-some (y ∷ ys) (suc k) x e = omega (arith, below-some ys k x e)

pub nth-is : {X : Type 0} (xs : List X) (k : ℕ) (x d : X) → slice_get xs k ≡ Some x → x ≡ get_or xs k d
nth-is [] k x d e = let z : ◌≡◌ {A = ℕ} 0 1 = cc in absurd (omega arith)
nth-is (y ∷ ys) zero x d e = let q : x ≡ y = cc in q
nth-is (y ∷ ys) (suc k) x d e = nth-is ys k x d e

-- a function of how many turns are left, one turn on and at the end
pub at-left-more : {Y : Type 0} (F : ℕ → Y) (n i : ℕ) → i < n → F (n - i) ≡ F (suc (n - (i + 1)))
at-left-more F n i h = let e : n - i ≡ suc (n - (i + 1)) = omega arith in ap F e

pub at-left-none : {Y : Type 0} (F : ℕ → Y) (n i : ℕ) → n ≤ i → F (n - i) ≡ F 0
at-left-none F n i h = let e : n - i ≡ 0 = omega arith in ap F e

pub none-past : {X : Type 0} (xs : List X) (k : ℕ) → slice_get xs k ≡ None → length xs ≤ k
none-past [] k e = omega arith
none-past (y ∷ ys) zero e = let z : ◌≡◌ {A = ℕ} 0 1 = cc in absurd (omega arith)
none-past (y ∷ ys) (suc k) e = let p = none-past ys k e in omega arith
