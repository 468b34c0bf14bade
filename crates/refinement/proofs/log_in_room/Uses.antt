-- Logs that write only into used parts, one rule for each step of a walk. Assumes nothing.
use mathlib.Core.Path.{◌≡◌, refl}
use mathlib.Core.Bool.{Bool, true, false, cond}
use mathlib.Core.List.{List, [], ◌∷◌, ◌++◌}
use Prim.Native.Nat.{ℕ, zero, suc, ◌<◌}
use native.Mathlib.Omega.{arith}
use lib.Dec.{ltb, eqb}
use borrow.Author.Tests.{ltb-true}
use Rattle.walk.specs.Log.{Entry, put, mask, amend, Log, Out, fail, done, wrote, need, found, next, each}
use Rattle.refinement.specs.log_in_room.Room.{AllBelow, UsedEntry, AllUsed}
use Rattle.refinement.specs.log_in_room.Reach.{HasBuffer, UsedAt}

entry_wide : {Used Used2 : ℕ → ℕ → Type 0} → ((i b : ℕ) → Used i b → Used2 i b) → (e : Entry) → UsedEntry Used e → UsedEntry Used2 e
entry_wide f (put i b o bs) u = (f i b u.0, u.1, u.2)
entry_wide f (mask i p vs) u = (f i 0 u.0, u.1)
entry_wide f (amend i b o bs) u = (f i b u.0, u.1, u.2)

-- parts that are used are used among more
pub used_wide : {Used Used2 : ℕ → ℕ → Type 0} → ((i b : ℕ) → Used i b → Used2 i b) → (l : Log) → AllUsed Used l → AllUsed Used2 l
unfolding AllUsed
used_wide f [] u = tt
used_wide f (e ∷ l) u = (entry_wide f e u.0, used_wide f l u.1)

module _ (Used : ℕ → ℕ → Type 0) where
  pub used_append : (l k : Log) → AllUsed Used l → AllUsed Used k → AllUsed Used (l ++ k)
  unfolding AllUsed
  used_append [] k u v = v
  used_append (e ∷ l) k u v = (u.0, used_append l k u.1 v)

  pub record Uses (o : Out) : Type 0 where
    pub log_used : AllUsed Used o.log

  pub uses_done : (c : List ℕ) → Uses (done c)
  unfolding done AllUsed
  uses_done c = record { log_used = tt }

  pub uses_fail : (g : ℕ) (c : List ℕ) → Uses (fail g c)
  unfolding fail AllUsed
  uses_fail g c = record { log_used = tt }

  pub uses_wrote : (e : Entry) (c : List ℕ) → UsedEntry Used e → Uses (wrote e c)
  unfolding wrote AllUsed
  uses_wrote e c u = record { log_used = (u, tt) }

  pub uses_cond : (b : Bool) (o p : Out) → (b ≡ true → Uses o) → (b ≡ false → Uses p) → Uses (cond b o p)
  uses_cond true o p h k = h refl
  uses_cond false o p h k = k refl

  pub uses_need : (b : Bool) (g : ℕ) (c : List ℕ) (o : Out) → (b ≡ true → Uses o) → Uses (need b g c o)
  unfolding need
  uses_need b g c o h = uses_cond b o (fail g c) h (λ e. uses_fail g c)

  pub uses_found : (m v g : ℕ) (c : List ℕ) (k : ℕ → Out) → (v < m → Uses (k v)) → Uses (found m v g c k)
  unfolding found
  uses_found m v g c k h = uses_cond (ltb v m) (k v) (fail g c) (λ e. h (ltb-true v m e)) (λ e. uses_fail g c)

  pub uses_next : (o : Out) (k : List ℕ → Out) → Uses o → ((c : List ℕ) → Uses (k c)) → Uses (next o k)
  unfolding next
  uses_next o k u h =
      uses_cond (eqb o.ans 0) _ o (λ e. record { log_used = used_append o.log (k o.counters).log u.log_used (h o.counters).log_used }) (λ e. u)

  pub uses_each : (f : ℕ → List ℕ → Out) → ((r : ℕ) (c : List ℕ) → Uses (f r c)) → (n r : ℕ) (c : List ℕ) → Uses (each f n r c)
  unfolding each
  uses_each f h zero r c = uses_done c
  uses_each f h (suc n) r c = uses_next (f r c) (λ c2. each f n (suc r) c2) (h r c) (λ c2. uses_each f h n (suc r) c2)

-- a write into a buffer that its node has
module _ (plan : List ℕ) (At : ℕ → Type 0) (i : ℕ) (small : i < 32) (here : At i) where
  pub uses_put : (b o : ℕ) (bs c : List ℕ) → HasBuffer plan i (suc b) → AllBelow 256 bs → Uses (UsedAt plan At) (wrote (put i (suc b) o bs) c)
  uses_put b o bs c h q = uses_wrote (UsedAt plan At) (put i (suc b) o bs) c (record { node = here; small = small; buffer = h }, omega arith, q)

  pub uses_amend : (b o : ℕ) (bs c : List ℕ) → HasBuffer plan i (suc b) → AllBelow 256 bs → Uses (UsedAt plan At) (wrote (amend i (suc b) o bs) c)
  uses_amend b o bs c h q = uses_wrote (UsedAt plan At) (amend i (suc b) o bs) c (record { node = here; small = small; buffer = h }, omega arith, q)

  pub uses_mask : (p : ℕ) (vs c : List ℕ) → HasBuffer plan i 0 → AllBelow 2 vs → Uses (UsedAt plan At) (wrote (mask i p vs) c)
  uses_mask p vs c h q = uses_wrote (UsedAt plan At) (mask i p vs) c (record { node = here; small = small; buffer = h }, q)
