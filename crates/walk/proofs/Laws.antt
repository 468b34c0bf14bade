-- How `Did` goes along the steps of a walk: each step has a law for each way that the code goes. Assumes nothing.
use mathlib.Core.Path.{◌≡◌, refl, sym, ap, subst, ◌∙◌}
use mathlib.Core.Bool.{Bool, true, false}
use mathlib.Core.List.{List, [], ◌∷◌, ◌++◌}
use Prim.Native.Nat.{ℕ, suc, ◌+◌, ◌<◌, ◌≤◌}
use native.Mathlib.Numerals.{add-one}
use lib.Dec.{eqb}
use borrow.Author.Tests.{lt-ltb, le-ltb, eq-eqb, ne_eqb}
use Rattle.walk.specs.Log.{Log, Entry, Out, Did, apply, apply_if, fail, done, wrote, need, found, next, each}

module _ (plan parts : List ℕ) where
  pub apply_append : (l1 l2 : Log) (room : List ℕ) → apply plan parts (l1 ++ l2) room ≡ apply plan parts l2 (apply plan parts l1 room)
  unfolding apply
  apply_append [] l2 room = refl
  apply_append (e ∷ l1) l2 room = apply_append l1 l2 _

  apply_if_append : (w : Bool) (l1 l2 : Log) (room : List ℕ)
      → apply_if plan parts w (l1 ++ l2) room ≡ apply_if plan parts w l2 (apply_if plan parts w l1 room)
  unfolding apply_if
  apply_if_append true l1 l2 room = apply_append l1 l2 room
  apply_if_append false l1 l2 room = refl

  pub apply_if_none : (w : Bool) (room : List ℕ) → room ≡ apply_if plan parts w [] room
  unfolding apply_if apply
  apply_if_none true room = refl
  apply_if_none false room = refl

-- ---- steps that a function takes together: what follows them, follows the last of them

pub next_need : (b : Bool) (g : ℕ) (c : List ℕ) (o : Out) (k : List ℕ → Out) → (g ≡ 0 → ⊥) → need b g c (next o k) ≡ next (need b g c o) k
unfolding need next fail
next_need true g c o k h = refl
next_need false g c o k h = rw (ne_eqb g 0 h)

pub next_wrote : (e : Entry) (c : List ℕ) (f k : List ℕ → Out) → next (wrote e c) (λ c2. next (f c2) k) ≡ next (next (wrote e c) f) k
unfolding wrote next
next_wrote e c f k = go (eqb (f c).ans 0) refl
  where
    go : (t : Bool) → eqb (f c).ans 0 ≡ t → next (wrote e c) (λ c2. next (f c2) k) ≡ next (next (wrote e c) f) k
    go true h = rw h
    go false h = rw h

module _ {plan parts : List ℕ} where
  pub fail_did : (w : Bool) (g : ℕ) (c room : List ℕ) → Did plan parts w (fail g c) room g c room
  unfolding fail
  fail_did w g c room = record { answer = refl; counters = refl; bytes = apply_if_none plan parts w room }

  pub done_did : (w : Bool) (c room : List ℕ) → Did plan parts w (done c) room 0 c room
  unfolding done
  done_did w c room = record { answer = refl; counters = refl; bytes = apply_if_none plan parts w room }

  -- one write, made or only tried
  pub wrote_did : (w : Bool) (e : Entry) (c room room2 : List ℕ) → room2 ≡ apply_if plan parts w (e ∷ []) room → Did plan parts w (wrote e c) room 0 c room2
  unfolding wrote
  wrote_did w e c room room2 h = record { answer = refl; counters = refl; bytes = h }

  module _ {w : Bool} {room : List ℕ} where
    pub need_no : {g : ℕ} {c : List ℕ} {b : Bool} (o : Out) → b ≡ false → Did plan parts w (need b g c o) room g c room
    unfolding need
    need_no {g} {c} o h = rw h (fail_did w g c room)

    pub need_ok : {r : ℕ} {c2 room2 : List ℕ} {b : Bool} {o : Out} (g : ℕ) (c : List ℕ) → b ≡ true → Did plan parts w o room r c2 room2
        → Did plan parts w (need b g c o) room r c2 room2
    unfolding need
    need_ok g c h d = rw h d

    pub found_no : {r v m g : ℕ} {c : List ℕ} (k : ℕ → Out) → r ≡ v → m ≤ r → Did plan parts w (found m v g c k) room g c room
    unfolding found
    found_no {r} {v} {m} {g} {c} k e h = subst (λ (y : ℕ). Did plan parts w (found m y g c k) room g c room) e (rw (le-ltb r m h) (fail_did w g c room))

    pub found_ok : {r2 : ℕ} {c2 room2 : List ℕ} {r v m : ℕ} (g : ℕ) (c : List ℕ) (k : ℕ → Out) → r ≡ v → r < m → Did plan parts w (k r) room r2 c2 room2
        → Did plan parts w (found m v g c k) room r2 c2 room2
    unfolding found
    found_ok {r2} {c2} {room2} {r} {v} {m} g c k e h d = subst (λ (y : ℕ). Did plan parts w (found m y g c k) room r2 c2 room2) e (rw (lt-ltb r m h) d)

    pub next_no : {r : ℕ} {c1 room1 : List ℕ} {o : Out} (k : List ℕ → Out) → Did plan parts w o room r c1 room1 → (r ≡ 0 → ⊥)
        → Did plan parts w (next o k) room r c1 room1
    unfolding next
    next_no {o = o} k d h = rw (ne_eqb o.ans 0 (λ z. h (d.answer ∙ z))) d

    pub next_ok : {r2 : ℕ} {c2 room2 : List ℕ} {r : ℕ} {c1 room1 : List ℕ} {o : Out} (k : List ℕ → Out) → Did plan parts w o room r c1 room1 → r ≡ 0
        → Did plan parts w (k c1) room1 r2 c2 room2 → Did plan parts w (next o k) room r2 c2 room2
    unfolding next
    next_ok {r2} {c2} {room2} {r} {c1} {room1} {o} k d h n =
        rw (eq-eqb o.ans 0 (sym d.answer ∙ h))
        (record {
          answer = n.answer ∙ ap (λ (l : List ℕ). (k l).ans) d.counters;
          counters = n.counters ∙ ap (λ (l : List ℕ). (k l).counters) d.counters;
          bytes = n.bytes ∙ ap (λ (y : List ℕ). apply_if plan parts w (k c1).log y) d.bytes ∙ sym (apply_if_append plan parts w o.log (k c1).log room) ∙ ap (λ (l : List ℕ). apply_if plan parts w (o.log ++ (k l).log) room) d.counters;
        })

  -- ---- rows one after the other

  pub each_none : (wr : Bool) (f : ℕ → List ℕ → Out) (n r : ℕ) (c room : List ℕ) → n ≡ 0 → Did plan parts wr (each f n r c) room 0 c room
  unfolding each
  each_none wr f n r c room e = rw e (done_did wr c room)

  pub each_stop : (wr : Bool) (f : ℕ → List ℕ → Out) (n n' r : ℕ) (c room : List ℕ) {g : ℕ} {c1 room1 : List ℕ} → n ≡ suc n'
      → Did plan parts wr (f r c) room g c1 room1 → (g ≡ 0 → ⊥) → Did plan parts wr (each f n r c) room g c1 room1
  unfolding each
  each_stop wr f n n' r c room e d h = rw e (next_no _ d h)

  pub each_more : (wr : Bool) (f : ℕ → List ℕ → Out) (n n' r r' : ℕ) (c room : List ℕ) {g : ℕ} {c1 room1 : List ℕ} {g2 : ℕ} {c2 room2 : List ℕ} → n ≡ suc n' → r' ≡ r + 1
      → Did plan parts wr (f r c) room g c1 room1 → g ≡ 0 → Did plan parts wr (each f n' r' c1) room1 g2 c2 room2 → Did plan parts wr (each f n r c) room g2 c2 room2
  unfolding each
  each_more wr f n n' r r' c room e q d h m = rw e (next_ok _ d h (rw (q, add-one r) at m))

-- where the rest o from the room is done, so is the whole o0 from room0: what a loop keeps
abbrev pub Rest : List ℕ → List ℕ → Bool → Out → List ℕ → Out → List ℕ → Type 0
Rest plan parts wr o0 room0 o room = (g : ℕ) (c2 room2 : List ℕ) → Did plan parts wr o room g c2 room2 → Did plan parts wr o0 room0 g c2 room2
