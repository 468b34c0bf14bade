-- A destination with no rows for a copy of one column is well formed and holds nothing. Assumes nothing.
use mathlib.Core.Path.{◌≡◌, refl, sym, ap, fun_ext}
use mathlib.Core.Bool.{Bool, true, false, cond}
use mathlib.Core.Option.{Option, none, some}
use mathlib.Core.List.{List, []}
use Prim.Native.Nat.{ℕ}
use native.Mathlib.Nat.{zero-mul}
use native.Mathlib.Omega.{arith}
use lib.Dec.{ltb}
use borrow.Author.Tests.{ltb-false}
use Rattle.columnar.specs.Types.{Plain, fixed, string, Ty, t_plain, t_view, t_list_view, t_list, t_sparse, t_dense, t_run_end, t_dictionary}
use Rattle.columnar.specs.Formed.{Formed}
use Rattle.columnar.specs.Array.{Array, ok, null_count_of}
use Rattle.columnar.specs.Reading.{Body, Column, masks}
use Rattle.model.specs.Grounds.{counts, leaf, among, start_counts}
use Rattle.model.specs.Primitive.{plain_start}
use Rattle.model.specs.Held.{held_plain, held_data}
use Rattle.model.proofs.Law.{BitsFor, CountFor, FineNode}
use Rattle.model.proofs.Nodes.{FineOf}
use Rattle.model.proofs.Start.{no_null_in, start_data_lem}
use Rattle.anew.specs.lists.Fresh.{fresh_node, fresh_data, fresh}

no_bits : (masks keep : Bool) → BitsFor masks (cond keep (some []) none) 0
no_bits true true = refl
no_bits false true = refl
no_bits true false = tt
no_bits false false = tt

no_count : (masks keep : Bool) → CountFor masks (cond keep (some []) none) 0
no_count true true = refl
no_count false true = tt
no_count true false = refl
no_count false false = refl

none_kept : (keep : Bool) → ◌≡◌ {A = Option (List Bool)} (cond keep (some []) none) none → keep ≡ false
none_kept true e = cc
none_kept false e = refl

-- a node that keeps nulls exactly where its source has one
node_fine : {P D : Type 0} (masks : Bool) (fine : (ℕ → Bool) → D → ℕ → Type 0) (f : P → D) (x : Array P) → ((b : ℕ → Bool) → fine b (f x.body) 0) → FineNode masks fine 1 (λ i. x) (fresh_node f x)
node_fine masks fine f x h =
    record {
      bits_are = no_bits masks (ltb 0 (null_count_of x));
      count_is = no_count masks (ltb 0 (null_count_of x));
      no_nulls = λ e j hj i q.
          let z = ltb-false 0 (null_count_of x) (none_kept (ltb 0 (null_count_of x)) e) in no_null_in (ok x.valid) x.off x.len (omega (arith, z)) i q;
      data_fine = h _;
    }

data_fine : (t : Ty) (b : Body t) (o : ℕ → Bool) → Formed t → FineOf t 1 (λ i. b) o (fresh_data t b) 0
data_fine (t_plain p) b o g = start_data_lem false (t_plain p) false 1 (λ i. b) o (omega arith) g
data_fine t_view b o g = start_data_lem false t_view false 1 (λ i. b) o (omega arith) g
data_fine (t_list_view w t) b o g =
    record {
      offsets_are = sym (zero-mul w);
      sizes_are = sym (zero-mul w);
      within = λ i q. absurd (omega arith);
      fits = (start_data_lem false (t_list_view w t) false 1 (λ i. b) o (omega arith) g).fits;
      child_fine = node_fine (masks t) (FineOf t 1 (λ i. b.child.body)) (fresh_data t) b.child (λ o. data_fine t b.child.body o g.1);
    }
data_fine (t_list w t) b o g =
    record {
      offsets_fine = (start_data_lem false (t_list w t) false 1 (λ i. b) o (omega arith) g).offsets_fine;
      child_fine = node_fine (masks t) (FineOf t 1 (λ i. b.child.body)) (fresh_data t) b.child (λ o. data_fine t b.child.body o g.1);
    }
data_fine (t_sparse ids nullable f) b o g =
    record {
      ids_are = refl;
      declared = λ i q. absurd (omega arith);
      kids_are = λ c m. refl;
      kids_fine = λ c m. node_fine (masks (f c)) (FineOf (f c) 1 (λ i. (b.children c).body)) (fresh_data (f c)) (b.children c) (λ o. data_fine (f c) (b.children c).body o (g.1 c m));
    }
data_fine (t_dense ids nullable f) b o g =
    record {
      ids_are = refl;
      positions_are = refl;
      declared = λ i q. absurd (omega arith);
      within = λ i q. absurd (omega arith);
      fits = λ c m. omega arith;
      kids_fine = λ c m. node_fine (masks (f c)) (FineOf (f c) 1 (λ i. (b.children c).body)) (fresh_data (f c)) (b.children c) (λ o. data_fine (f c) (b.children c).body o (g.1 c m));
    }
data_fine (t_run_end w t) b o g =
    record {
      no_bits = refl;
      ends_are = sym (zero-mul w);
      rises = λ i q. absurd (omega arith);
      covers = refl;
      fits = (start_data_lem false (t_run_end w t) false 1 (λ i. b) o (omega arith) g).fits;
      as_many = refl;
      some_run = λ z. absurd (omega (arith, z));
      null_run = λ z. absurd (omega (arith, z));
      values_fine = node_fine (masks t) (FineOf t 1 (λ i. b.values.body)) (fresh_data t) b.values (λ o. data_fine t b.values.body o g.1);
    }
data_fine (t_dictionary k p) b o g = start_data_lem false (t_dictionary k p) false 1 (λ i. b) o (omega arith) g

-- IT IS WELL FORMED
pub fresh_fine : (t : Ty) (x : Column t) → Formed t → FineNode (masks t) (FineOf t 1 (λ i. x.body)) 1 (λ i. x) (fresh t x)
fresh_fine t x g = node_fine (masks t) (FineOf t 1 (λ i. x.body)) (fresh_data t) x (λ o. data_fine t x.body o g)

-- IT HOLDS NOTHING
plain_none : (p : Plain) → held_plain p (plain_start p) 0 ≡ counts 0 0 leaf
plain_none (fixed k) = refl
plain_none (string w) = refl

pub fresh_held : (t : Ty) (b : Body t) → held_data t (fresh_data t b) 0 ≡ start_counts false t
fresh_held (t_plain p) b = plain_none p
fresh_held t_view b = refl
fresh_held (t_list_view w t) b = ap (λ x. counts 0 0 (λ e. x)) (fresh_held t b.child.body)
fresh_held (t_list w t) b = ap (λ x. counts 0 0 (λ e. x)) (fresh_held t b.child.body)
fresh_held (t_sparse ids nullable f) b = ap (λ g. counts 0 0 (among ids g)) (fun_ext (λ e. fresh_held (f e) (b.children e).body))
fresh_held (t_dense ids nullable f) b = ap (λ g. counts 0 0 (among ids g)) (fun_ext (λ e. fresh_held (f e) (b.children e).body))
fresh_held (t_run_end w t) b = ap (λ x. counts 0 0 (λ e. x)) (fresh_held t b.values.body)
fresh_held (t_dictionary k p) b = refl
