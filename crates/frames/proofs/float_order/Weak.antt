-- What both directions of the order have in common: the first by it of two, of three, and of any more. Assumes nothing.
use mathlib.Core.Path.{◌≡◌, refl, sym, ◌∙◌}
use mathlib.Core.Bool.{Bool, true, false, cond, true≢false}
use lib.Ieee.{Float, lt, is_nan}
use Rattle.frames.specs.float_order.Order.{above, first_by}
use Rattle.frames.proofs.float_order.Order.{lt_trans, lt_irr, lt_co}

-- a strict weak order on what is a number
pub record Weak (under : Float → Float → Bool) : Type 0 where
  pub trans : (x y z : Float) → under x y ≡ true → under y z ≡ true → under x z ≡ true
  pub irr : (x : Float) → under x x ≡ false
  pub co : (x y z : Float) → is_nan y ≡ false → under x z ≡ true → under y z ≡ false → under x y ≡ true

pub lt_weak : Weak lt
lt_weak = record { trans = lt_trans; irr = lt_irr; co = lt_co }

above_co : (x y z : Float) → is_nan y ≡ false → lt z x ≡ true → lt z y ≡ false → lt y x ≡ true
above_co x y z h p q = go (lt y x) refl
  where
    go : (b : Bool) → lt y x ≡ b → b ≡ true
    go true e = refl
    go false e = absurd (true≢false (sym (lt_co z y x h p e) ∙ q))

pub above_weak : Weak above
above_weak = record { trans = λ x y z p q. lt_trans z y x q p; irr = lt_irr; co = above_co }

module _ (under : Float → Float → Bool) (w : Weak under) where
  pub asym : (x y : Float) → under x y ≡ true → under y x ≡ false
  asym x y p = go (under y x) refl
    where
      go : (b : Bool) → under y x ≡ b → b ≡ false
      go true e = absurd (true≢false (sym (w.trans x y x p e) ∙ w.irr x))
      go false e = refl

  -- what is not under y, a number that is not under z, is not under z
  pub not_under : (x y z : Float) → is_nan y ≡ false → under x y ≡ false → under y z ≡ false → under x z ≡ false
  not_under x y z h p q = go (under x z) refl
    where
      go : (b : Bool) → under x z ≡ b → b ≡ false
      go true e = absurd (true≢false (sym (w.co x y z h e q) ∙ p))
      go false e = refl

  -- however three are taken together
  pub first_assoc : (a b c : Float) → is_nan b ≡ false → first_by under (first_by under a b) c ≡ first_by under a (first_by under b c)
  first_assoc a b c h = go (under b a) refl (under c b) refl (under c a) refl
    where
      go : (x : Bool) → under b a ≡ x → (y : Bool) → under c b ≡ y → (z : Bool) → under c a ≡ z
          → first_by under (first_by under a b) c ≡ first_by under a (first_by under b c)
      go true p true q true r = rw (p, q, r) refl
      go true p true q false r = absurd (true≢false (sym (w.trans c b a q p) ∙ r))
      go true p false q z r = rw (p, q, p) refl
      go false p true q z r = rw (p, q) refl
      go false p false q true r = absurd (true≢false (sym (w.co c b a h r p) ∙ q))
      go false p false q false r = rw (p, q, r, p) refl

pub first_number : (under : Float → Float → Bool) (a b : Float) → is_nan a ≡ false → is_nan b ≡ false → is_nan (first_by under a b) ≡ false
first_number under a b h k = go (under b a)
  where
    go : (x : Bool) → is_nan (cond x b a) ≡ false
    go true = k
    go false = h
