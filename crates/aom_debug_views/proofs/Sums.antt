-- Sums over the first numbers, and over a list.
use Rattle.std.proofs.Common.{◌≡◌, ◌<◌, ℕ, zero, suc, ◌+◌, Bool, false, cond, ◌==◌, List, [], ◌∷◌, inl, inr, refl, arith}
use Rattle.aom_clients.specs.Lists.{IsIn, IsOnce}

abbrev pub sum_to : (ℕ → ℕ) → ℕ → ℕ
sum_to f zero = 0
sum_to f (suc n) = sum_to f n + f n

abbrev pub bit : Bool → ℕ
bit b = cond b 1 0

pub sum_same : (f g : ℕ → ℕ) (n : ℕ) → ((k : ℕ) → k < n → f k ≡ g k) → sum_to f n ≡ sum_to g n
sum_same f g zero same = refl
sum_same f g (suc n) same = let below = sum_same f g n (λ k less. same k (omega arith)) in let here = same n (omega arith) in omega (arith, below, here)

pub sum_none : (f : ℕ → ℕ) (n : ℕ) → ((k : ℕ) → k < n → f k ≡ 0) → sum_to f n ≡ 0
sum_none f zero none = refl
sum_none f (suc n) none = let below = sum_none f n (λ k less. none k (omega arith)) in let here = none n (omega arith) in omega (arith, below, here)

pub sum_add : (f g : ℕ → ℕ) (n : ℕ) → sum_to (λ k. f k + g k) n ≡ sum_to f n + sum_to g n
sum_add f g zero = refl
sum_add f g (suc n) = let below = sum_add f g n in omega (arith, below)

-- one number alone counts
pub sum_one : (f : ℕ → ℕ) (at n : ℕ) → at < n → ((k : ℕ) → (k == at) ≡ false → f k ≡ 0) → sum_to f n ≡ f at
sum_one f at zero less none = absurd (omega arith)
sum_one f at (suc n) less none = grind (arith, sum_one f at n, sum_none f n)

-- ---- over a list

abbrev pub sum_of : (ℕ → ℕ) → List ℕ → ℕ
sum_of f [] = 0
sum_of f (x ∷ xs) = f x + sum_of f xs

pub sum_of_same : (f g : ℕ → ℕ) (xs : List ℕ) → ((x : ℕ) → f x ≡ g x) → sum_of f xs ≡ sum_of g xs
sum_of_same f g [] same = refl
sum_of_same f g (x ∷ xs) same = let one = same x in let rest = sum_of_same f g xs same in omega (arith, one, rest)

pub sum_of_none : (f : ℕ → ℕ) (xs : List ℕ) → ((x : ℕ) → IsIn x xs → f x ≡ 0) → sum_of f xs ≡ 0
sum_of_none f [] none = refl
sum_of_none f (x ∷ xs) none = let one = none x (inl refl) in let rest = sum_of_none f xs (λ y there. none y (inr there)) in omega (arith, one, rest)

pub sum_of_add : (f g : ℕ → ℕ) (xs : List ℕ) → sum_of (λ x. f x + g x) xs ≡ sum_of f xs + sum_of g xs
sum_of_add f g [] = refl
sum_of_add f g (x ∷ xs) = let rest = sum_of_add f g xs in omega (arith, rest)

-- where one alone, which stands there once, gives anything
pub sum_of_one : (f : ℕ → ℕ) (at : ℕ) (xs : List ℕ) → IsOnce xs → IsIn at xs → ((x : ℕ) → (x == at) ≡ false → f x ≡ 0) → sum_of f xs ≡ f at
sum_of_one f at [] once there none = absurd there
sum_of_one f at (x ∷ xs) once there none = grind (arith, sum_of_one f at xs once.1, sum_of_none f xs)
