-- Codes of nodes stored wider: which tests of a code they keep. Assumes nothing.
use mathlib.Core.Path.{◌≡◌, refl, sym, ap, subst, ◌∙◌}
use mathlib.Core.Bool.{Bool, true, false, not, ◌&&◌, ◌||◌, false≢true}
use mathlib.Core.Option.{none}
use Prim.Native.Nat.{ℕ, ◌-◌, ◌≤◌, ◌<◌}
use native.Mathlib.Omega.{arith}
use lib.Dec.{leb, eqb}
use borrow.Author.Tests.{leb-true, le-leb, eqb-true}
use Rattle.schema.specs.formats.Code.{between, is_integer, is_fixed, is_string, is_view, is_list_view, is_list, is_union, is_run_end}
use Rattle.schema.specs.Tree.{dictionary}
use Rattle.array_data.proofs.type_tree.Ids.{both}
use Rattle.join.specs.Stored.{is_ends, CodeWider, same_code, strings, list_views, plain_lists, keys, run_ends_lem}

-- ---- tests

pub or_up : (a b a' b' : Bool) → (a ≡ true → a' ≡ true) → (b ≡ true → b' ≡ true) → a || b ≡ true → a' || b' ≡ true
or_up true b a' b' f g h = ap (λ x. x || b') (f refl)
or_up false b true b' f g h = refl
or_up false b false b' f g h = g h

pub and_up : (a b a' b' : Bool) → (a ≡ true → a' ≡ true) → (b ≡ true → b' ≡ true) → a && b ≡ true → a' && b' ≡ true
and_up true b a' b' f g h = ap (λ x. x && b') (f refl) ∙ g h
and_up false b a' b' f g h = absurd (false≢true h)

pub two : {a b : Bool} → a ≡ true → b ≡ true → a && b ≡ true
two {a} {b} e f = ap (λ x. x && b) e ∙ f

pub not_up : (a a' b : Bool) → (a' ≡ true → a ≡ true) → not a || b ≡ true → not a' || b ≡ true
not_up a false b f h = refl
not_up a true b f h = subst (λ x. not x || b ≡ true) (f refl) h

-- ---- codes

pub range : (a b c : ℕ) → between a b c ≡ true → (a ≤ c) × (c ≤ b)
range a b c h = let p = both (leb a c) (leb c b) h in (leb-true a c p.0, leb-true c b p.1)

in_range : (a b c : ℕ) → a ≤ c → c ≤ b → between a b c ≡ true
in_range a b c p q = two (le-leb a c p) (le-leb c b q)

pub ends_range : (c : ℕ) → is_ends c ≡ true → (3 ≤ c) × (c ≤ 7)
ends_range c h = go (eqb c 3) refl (eqb c 5) refl (eqb c 7) refl h
  where
    go : (x : Bool) → eqb c 3 ≡ x → (y : Bool) → eqb c 5 ≡ y → (z : Bool) → eqb c 7 ≡ z → x || y || z ≡ true → (3 ≤ c) × (c ≤ 7)
    go true e y f z g h = let k = eqb-true c 3 e in (omega arith, omega arith)
    go false e true f z g h = let k = eqb-true c 5 f in (omega arith, omega arith)
    go false e false f true g h = let k = eqb-true c 7 g in (omega arith, omega arith)
    go false e false f false g h = absurd (false≢true h)

-- all codes from lo to hi are among those from a to b, or none is
data Cut (a b lo hi : ℕ) : Type 0 where
  inside : a ≤ lo → hi ≤ b → Cut a b lo hi
  before : b < lo → Cut a b lo hi
  after : hi < a → Cut a b lo hi

-- both codes are the same, or both among those of byte strings, list-views, lists or integers
pub data Near (c c' : ℕ) : Type 0 where
  the_same : c ≡ c' → Near c c'
  texts : (11 ≤ c) × (c ≤ 14) → (11 ≤ c') × (c' ≤ 14) → Near c c'
  lists : (17 ≤ c) × (c ≤ 18) → (17 ≤ c') × (c' ≤ 18) → Near c c'
  listings : (19 ≤ c) × (c ≤ 20) → (19 ≤ c') × (c' ≤ 20) → Near c c'
  integers : (1 ≤ c) × (c ≤ 8) → (1 ≤ c') × (c' ≤ 8) → Near c c'

pub near : {k e : Bool} {c c' : ℕ} → CodeWider k e c c' → Near c c'
near (same_code e) = the_same e
near {c = c} {c' = c'} (strings h g w) = texts (range 11 14 c h) (range 11 14 c' g)
near {c = c} {c' = c'} (list_views h g w) = lists (range 17 18 c h) (range 17 18 c' g)
near {c = c} {c' = c'} (plain_lists h g w) = listings (range 19 20 c h) (range 19 20 c' g)
near {c = c} {c' = c'} (keys k h g w) = integers (range 1 8 c h) (range 1 8 c' g)
near {c = c} {c' = c'} (run_ends_lem b h g w) =
    let p = ends_range c h in
    let q = ends_range c' g in
    integers (omega arith, omega arith) (omega arith, omega arith)

pub back : {c c' : ℕ} → Near c c' → Near c' c
back (the_same e) = the_same (sym e)
back (texts h g) = texts g h
back (lists h g) = lists g h
back (listings h g) = listings g h
back (integers h g) = integers g h

moved : (a b lo hi c c' : ℕ) → Cut a b lo hi → (lo ≤ c) × (c ≤ hi) → (lo ≤ c') × (c' ≤ hi) → between a b c ≡ true → between a b c' ≡ true
moved a b lo hi c c' (inside p q) h g e = in_range a b c' (omega (arith, g.0)) (omega (arith, g.1))
moved a b lo hi c c' (before p) h g e = absurd (omega (arith, h.0, (range a b c e).1))
moved a b lo hi c c' (after p) h g e = absurd (omega (arith, h.1, (range a b c e).0))

-- a range of codes is kept that cuts none of the four
kept : (a b : ℕ) → Cut a b 11 14 → Cut a b 17 18 → Cut a b 19 20 → Cut a b 1 8 → (c c' : ℕ) → Near c c' → between a b c ≡ true → between a b c' ≡ true
kept a b x y u z c c' (the_same e) h = subst (λ k. between a b k ≡ true) e h
kept a b x y u z c c' (texts p q) h = moved a b 11 14 c c' x p q h
kept a b x y u z c c' (lists p q) h = moved a b 17 18 c c' y p q h
kept a b x y u z c c' (listings p q) h = moved a b 19 20 c c' u p q h
kept a b x y u z c c' (integers p q) h = moved a b 1 8 c c' z p q h

module _ (c c' : ℕ) (r : Near c c') where
  pub integer_kept : is_integer c ≡ true → is_integer c' ≡ true
  integer_kept = kept 1 8 (before (omega arith)) (before (omega arith)) (before (omega arith)) (inside (omega arith) (omega arith)) c c' r

  pub fixed_kept : is_fixed c ≡ true → is_fixed c' ≡ true
  fixed_kept = kept 1 10 (before (omega arith)) (before (omega arith)) (before (omega arith)) (inside (omega arith) (omega arith)) c c' r

  pub string_kept : is_string c ≡ true → is_string c' ≡ true
  string_kept = kept 11 14 (inside (omega arith) (omega arith)) (before (omega arith)) (before (omega arith)) (after (omega arith)) c c' r

  pub view_kept : is_view c ≡ true → is_view c' ≡ true
  view_kept = kept 15 16 (after (omega arith)) (before (omega arith)) (before (omega arith)) (after (omega arith)) c c' r

  pub list_kept : is_list_view c ≡ true → is_list_view c' ≡ true
  list_kept = kept 17 18 (after (omega arith)) (inside (omega arith) (omega arith)) (before (omega arith)) (after (omega arith)) c c' r

  pub plain_list_kept : is_list c ≡ true → is_list c' ≡ true
  plain_list_kept = kept 19 20 (after (omega arith)) (after (omega arith)) (inside (omega arith) (omega arith)) (after (omega arith)) c c' r

  pub union_kept : is_union c ≡ true → is_union c' ≡ true
  union_kept = kept 21 22 (after (omega arith)) (after (omega arith)) (after (omega arith)) (after (omega arith)) c c' r

  pub run_kept : is_run_end c ≡ true → is_run_end c' ≡ true
  run_kept = kept 23 23 (after (omega arith)) (after (omega arith)) (after (omega arith)) (after (omega arith)) c c' r

-- run ends stay run ends at a node that has no dictionary
pub ends_kept : (c c' : ℕ) (k b : Bool) → k ≡ false → CodeWider k b c c' → is_ends c ≡ true → is_ends c' ≡ true
ends_kept c c' k b n (same_code e) h = subst (λ z. is_ends z ≡ true) e h
ends_kept c c' k b n (strings p q w) h = absurd (omega (arith, (range 11 14 c p).0, (ends_range c h).1))
ends_kept c c' k b n (list_views p q w) h = absurd (omega (arith, (range 17 18 c p).0, (ends_range c h).1))
ends_kept c c' k b n (plain_lists p q w) h = absurd (omega (arith, (range 19 20 c p).0, (ends_range c h).1))
ends_kept c c' k b n (keys e p q w) h = absurd (false≢true (sym n ∙ e))
ends_kept c c' k b n (run_ends_lem e p q w) h = q

-- a union's code is the same
pub union_code : {keyed ended : Bool} (c c' : ℕ) → is_union c ≡ true → CodeWider keyed ended c c' → c ≡ c'
union_code c c' g (same_code e) = e
union_code c c' g (strings a b r) = absurd (omega (arith, (range 21 22 c g).0, (range 11 14 c a).1))
union_code c c' g (list_views a b r) = absurd (omega (arith, (range 21 22 c g).0, (range 17 18 c a).1))
union_code c c' g (plain_lists a b r) = absurd (omega (arith, (range 21 22 c g).0, (range 19 20 c a).1))
union_code c c' g (keys k a b r) = absurd (omega (arith, (range 21 22 c g).0, (range 1 8 c a).1))
union_code c c' g (run_ends_lem k a b r) = absurd (omega (arith, (range 21 22 c g).0, (ends_range c a).1))
