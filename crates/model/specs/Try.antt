-- Answers: done with a value, or stopped by a ground of refusal (01, "Grounds of refusal"). Assumes nothing.
use Rattle.std.specs.Prelude.{Bool, true, false, ℕ, zero, suc}

pub data Try (A : Type 0) : Type 0 where
  done : A → Try A
  stop : ℕ → Try A

-- the first, and where it is done the second: a refusal ends the whole (the Rust's `?`)
abbrev pub then : {A B : Type 0} → Try A → (A → Try B) → Try B
then (done x) f = f x
then (stop g) f = stop g

-- ground g unless the test holds
abbrev pub guard : {A : Type 0} → Bool → ℕ → Try A → Try A
guard true g t = t
guard false g t = stop g

abbrev pub map_try : {A B : Type 0} → (A → B) → Try A → Try B
map_try f (done x) = done (f x)
map_try f (stop g) = stop g

-- what stands after an answer: a refusal keeps nothing
abbrev pub after : {A : Type 0} → Try A → A → A
after (done x) y = x
after (stop g) y = y

-- items a, a + 1, .., n of them, one after another
abbrev pub steps_t : {A : Type 0} → (ℕ → A → Try A) → ℕ → ℕ → A → Try A
steps_t f a zero x = done x
steps_t f a (suc n) x = then (f a x) (steps_t f (suc a) n)
