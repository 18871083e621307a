-- What is claimed of an operator: on proper ranges i, j and k the range that it shows is fair to its run.
use Rattle.std.specs.Prelude.{◌≡◌, ℤ, Err, Ok, Result}
use Rattle.std.specs.Int.{Width}
use Rattle.refusal.specs.declared.Refusal.{Refusal}
use Rattle.interval.specs.declared.Interval.{Interval}
use Rattle.interval.specs.Set.{◌∈◌, Proper}

-- a number of v is given
pub data GivesIn (v : Interval) : Result ℤ Refusal → Type 0 where
  given : {n : ℤ} → n ∈ v → GivesIn v (Ok n)

-- numbers, each drawn from its own range, on which the run stops by r
pub record StopsOn (run : ℤ → ℤ → ℤ → Result ℤ Refusal) (i j k : Interval) (r : Refusal) : Type 0 where
  pub x : ℤ
  pub y : ℤ
  pub z : ℤ
  pub x-in : x ∈ i
  pub y-in : y ∈ j
  pub z-in : z ∈ k
  pub stop : run x y z ≡ Err r

-- v is shown: every run gives a number of v. Refused by r: some run stops by r
pub data Fair (w : Width) (run : ℤ → ℤ → ℤ → Result ℤ Refusal) (i j k : Interval) : Result Interval Refusal → Type 0 where
  passes : {v : Interval} → ((x y z : ℤ) → x ∈ i → y ∈ j → z ∈ k → GivesIn v (run x y z)) → Proper w v → Fair w run i j k (Ok v)
  refuses : {r : Refusal} → StopsOn run i j k r → Fair w run i j k (Err r)
