-- When a variable of the innermost method has changed, by how many tasks are at hand.
use Rattle.std.proofs.Common.{◌≡◌, ◌≢◌, ◌∙◌, ◌<◌, ◌≤◌, ◌&&◌, ◌||◌, ◌==◌, ℕ, Bool, true, ap, arith, nat_lt, sym}
use Rattle.std.proofs.lemmas.Bool.{eq-eqb, le-ltb, lt-ltb, ne_eqb}
use Rattle.aom_debug_stepping.specs.Stops.{changes_by}

-- fewer than at first: its method is over
pub fewer : (local : Bool) (n m depth : ℕ) (other : Bool) → local ≡ true → n ≡ m → n < depth → nat_lt n depth ≡ changes_by local m depth other
fewer local n m depth other is same less =
    rw is (lt-ltb n depth less ∙ sym (ap (λ b. b || (m == depth && other)) (lt-ltb m depth (omega (arith, less, same)))))

-- as many: by what it has
pub as_many : (local : Bool) (n m depth : ℕ) (b other : Bool) → local ≡ true → n ≡ m → n ≡ depth → b ≡ other → b ≡ changes_by local m depth other
as_many local n m depth b other is same even has =
    rw is (has ∙ sym (ap (λ less. less || (m == depth && other)) (le-ltb m depth (omega (arith, even, same)))
    ∙ ap (λ e. e && other) (eq-eqb m depth (sym same ∙ even))))

-- more: another method is over it
pub more : (local : Bool) (n m depth : ℕ) (other : Bool) → local ≡ true → n ≡ m → depth ≤ n → n ≢ depth → (n == depth) ≡ changes_by local m depth other
more local n m depth other is same most uneven =
    rw is (ne_eqb n depth uneven ∙ sym (ap (λ less. less || (m == depth && other)) (le-ltb m depth (omega (arith, most, same)))
    ∙ ap (λ e. e && other) (ne_eqb m depth (λ even. uneven (same ∙ even)))))
