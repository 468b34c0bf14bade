-- A COPY CUT IN TWO, for every type: the single copy is accepted where its halves are, and holds no more. Assumes nothing.
use mathlib.Core.Path.{◌≡◌, refl, sym, ap, ap₂, ◌∙◌, subst}
use mathlib.Core.Bool.{Bool}
use mathlib.Core.List.{List, Memᴰ}
use Prim.Native.Nat.{ℕ, zero, suc, ◌+◌, ◌-◌, ◌≤◌, ◌<◌, min}
use native.Mathlib.Nat.{add-zero, add_assoc}
use native.Mathlib.Decide.{dec_lt}
use native.Mathlib.Omega.{arith}
use Rattle.columnar.specs.Types.{Plain, fixed, string, half, Ty, t_plain, t_view, t_list_view, t_list, t_sparse, t_dense, t_run_end, t_dictionary}
use Rattle.columnar.specs.Array.{item}
use Rattle.columnar.specs.Plain.{OffsetsRule, StringRule, empty, full}
use Rattle.columnar.specs.RunEnd.{end_of, first_above, start_of}
use Rattle.columnar.specs.Reading.{Column, Source}
use Rattle.model.specs.Try.{Try, done, after, steps_t}
use Rattle.model.specs.Grounds.{Counts, counts, absent, rows_of, bytes_of, kid_of, leaf, ask_of, list_view_row, among, dense_row, first_run, run_count, ask_copy}
use Rattle.model.specs.Cut.{Under, outside, in_runs, exempt, under_runs, under_list, OneRunMore, CutBelow, Cut}
use Rattle.model.proofs.Ids.{among_in}
use Rattle.model.proofs.Ends.{found, start_le, find_le}
use Rattle.model.proofs.CutTries.{done_is, then_done, then_is, guard_is, steps_cut, each_is}
use Rattle.model.proofs.CutKinds.{text_asked, sparse_asked, lists_asked, lists_ask, runs_asked, runs_ask, rows_after}
use Rattle.model.proofs.CutLess.{after_is, among_cut, Led, copy_again, Few, few_none, copy_more}
use Rattle.model.proofs.CutSums.{some_less, some_sum, sum_less, sum_fits, le_same, le_lt, in_reach, spread}

-- the rows a .. a + n - 1 and then k .. k + m - 1, which begin o rows before the first ones end, against all s of them at once: o is 0
-- below no run-end node, at most 1 below one, and anything where runs are not counted
pub record Ranges (u : Under) (len o a n k m s : ℕ) : Type 0 where
  pub few : Few u o
  pub front : o ≤ n
  pub back : o ≤ m
  pub meet : k + o ≡ a + n
  pub all : s + o ≡ n + m
  pub within : a + s ≤ len

abbrev pub Cuts : (t : Ty) → Under → Column t → Type 0
Cuts t u x =
    (o a n k m s : ℕ) → Ranges u x.len o a n k m s → 0 < n → 0 < m → (c d e : Counts) → ask_of (ask_copy t) x a n c ≡ done d → ask_of (ask_copy t) x k m d ≡ done e
    → Led (λ v. Cut t u v e) (ask_of (ask_copy t) x a s c)

-- .. with empty ones
abbrev pub AnyCuts : (t : Ty) → Under → Column t → Type 0
AnyCuts t u x =
    (o a n k m s : ℕ) → Ranges u x.len o a n k m s → (c d e : Counts) → ask_of (ask_copy t) x a n c ≡ done d → ask_of (ask_copy t) x k m d ≡ done e
    → Led (λ v. Cut t u v e) (ask_of (ask_copy t) x a s c)

-- ---- rows alone

rows_cut : (t : Ty) (u : Under) → ((x y : Counts) → CutBelow t u x y) → (n m s : ℕ) → s ≤ n + m → (c d e : Counts)
    → done (counts (rows_of c + n) 0 leaf) ≡ done d → done (counts (rows_of d + m) 0 leaf) ≡ done e → Led (λ v. Cut t u v e) (done (counts (rows_of c + s) 0 leaf))
rows_cut t u k n m s h c d e p q =
    let z : rows_of d ≡ rows_of c + n = ap rows_of (sym (done_is p)) in
    record {
      value = counts (rows_of c + s) 0 leaf;
      is = refl;
      holds = subst (Cut t u (counts (rows_of c + s) 0 leaf)) (done_is q) (record { rows_less = omega (arith, z); below_less = k _ _ });
    }

-- ---- byte strings

-- an offset is not above a later one
later_offset : (w : ℕ) (b : List ℕ) (most off len : ℕ) → OffsetsRule w b most off len → (o k : ℕ) → k + o ≤ len → item w b (off + k) ≤ item w b (off + k + o)
later_offset w b most off len r zero k q = rw (add-zero (off + k)) (omega arith)
later_offset w b most off len (empty e f) (suc o) k q = absurd (omega arith)
later_offset w b most off len (full r) (suc o) k q =
    let y : off + k + suc o ≡ off + (k + o) + 1 = omega arith in
    let z : off + k + o ≡ off + (k + o) = omega arith in
    let i : item w b (off + k + o) ≡ item w b (off + (k + o)) = ap (item w b) z in
    rw y (omega (arith, later_offset w b most off len (full r) o k (omega arith), r.rises (k + o) (omega arith), i))

-- the bytes of the two stretches are no fewer than those of the one: X and Y where the first begins and ends, Z and W where the second does
bytes_cut : (c d x X Y Y' Z W W' : ℕ) → d ≡ c + (Y - X) → Y ≡ Y' → Z ≤ Y' → W ≡ W' → x ≡ c + (W' - X) → x ≤ d + (W - Z)
bytes_cut c d x X Y Y' Z W W' e f h g i = omega arith

text_cut : (u : Under) (w : ℕ) (x : Column (t_plain (string w))) → StringRule w x.body x.off x.len → Cuts (t_plain (string w)) u x
text_cut u w x r o a n k m s h _ _ c d e p q =
    let i : ℕ → ℕ = item w x.body.offsets in
    let A = x.off + a in
    let K = x.off + k in
    let f = text_asked w c n _ d p in
    let g = text_asked w d m _ e q in
    let v = spread x.off x.len _ o a n k m s h.meet h.all h.within (le_same (x.off + x.len)) in
    let y =
    bytes_cut (bytes_of c) (bytes_of d) (bytes_of c + (i (A + s) - i A)) (i A) (i (A + n)) (i (K + o)) (i K) (i (K + m)) (i (A + s)) (ap bytes_of f.is) (ap i (sym v.0))
    (later_offset w x.body.offsets _ x.off x.len r o k (in_reach o a n k m s _ h.meet h.all h.back h.within)) (ap i v.1) refl in
    record {
      value = counts (rows_of c + s) (bytes_of c + (i (A + s) - i A)) leaf;
      is = guard_is _ 6 _ (le_lt (bytes_of c + (i (A + s) - i A)) _ (half w) y g.fits);
      holds = subst (Cut (t_plain (string w)) u _) (sym g.is) (record { rows_less = sum_less (rows_of c) (rows_of d) o n m s (ap rows_of f.is) h.all; below_less = y });
    }

plain_cut : (u : Under) (p : Plain) (x : Column (t_plain p)) → Source (t_plain p) x → Cuts (t_plain p) u x
plain_cut u (fixed k') x g o a n k m s h _ _ c d e p q = rows_cut (t_plain (fixed k')) u (λ x y. tt) n m s (omega (arith, h.all)) c d e p q
plain_cut u (string w) x g o a n k m s h sn sm c d e p q = text_cut u w x g.slots o a n k m s h sn sm c d e p q

-- ---- row by row: list-views and dense unions

steps_cuts : (t : Ty) (u : Under) (x : Column t) (f : ℕ → Counts → Try Counts) → ((a n : ℕ) (c : Counts) → ask_copy t x.body a n c ≡ steps_t f a n c) → Cuts t u x
steps_cuts t u x f same o a n k m s h _ _ c d e p q =
    let A = x.off + a in
    let K = x.off + k in
    let r = m - o in
    let y : m ≡ o + r = omega (arith, h.back) in
    let z : s ≡ n + r = omega (arith, h.back, h.all) in
    let v : A + n ≡ K + o = omega (arith, h.meet) in
    let b = then_done (steps_t f K o d) (steps_t f (K + o) r) e (sym (steps_cut f K o r d) ∙ ap (λ i. steps_t f K i d) (sym y) ∙ sym (same K m d) ∙ q) in
    let less = copy_more u t x.body K o h.few d b.first (same K o d ∙ b.first_done) in
    let l = copy_again u t x.body (K + o) r d b.first e less (same (K + o) r b.first ∙ b.rest_done) in
    record {
      value = l.value;
      is =
          same A s c
          ∙ ap (λ i. steps_t f A i c) z
          ∙ steps_cut f A n r c
          ∙ then_is (steps_t f A n c) (steps_t f (A + n) r) d (sym (same A n c) ∙ p)
          ∙ ap (λ i. steps_t f i r d) v
          ∙ sym (same (K + o) r d)
          ∙ l.is;
      holds = l.holds;
    }

-- ---- lists: the child's stretches may be empty

-- a later place
offset_up : (w : ℕ) (b : List ℕ) (most off len : ℕ) → OffsetsRule w b most off len → (k j : ℕ) → k ≤ j → j ≤ len → item w b (off + k) ≤ item w b (off + j)
offset_up w b most off len r k j p q =
    let z : off + k + (j - k) ≡ off + j = omega arith in
    let y = later_offset w b most off len r (j - k) k (omega arith) in
    rw z at y

-- .. and the last
offset_in_lem : (w : ℕ) (b : List ℕ) (most off len : ℕ) → OffsetsRule w b most off len → 0 < len → (k : ℕ) → k ≤ len → item w b (off + k) ≤ most
offset_in_lem w b most off len (empty e f) s k q = absurd (omega arith)
offset_in_lem w b most off len (full r) s k q = omega (arith, offset_up w b most off len (full r) k len q (omega arith), r.within)

-- O of the child's rows are handed down twice: none where no row is
few_stretch : (u : Under) (o O : ℕ) → Few u o → (o ≡ 0 → O ≡ 0) → Few (under_list u) O
few_stretch outside o O h k = k h
few_stretch in_runs o O h k = tt
few_stretch exempt o O h k = tt

-- F and L where the first stretch begins and ends, G and H where the second does
stretched : (u : Under) (len o F L G H J S : ℕ) → Few u o → J ≡ L → H ≡ S → F ≤ G → G ≤ J → J ≤ H → S ≤ len → (o ≡ 0 → J ≡ G) → Ranges (under_list u) len (J - G) F (L - F) G (H - G) (S - F)
stretched u len o F L G H J S few e f a b c d z =
    record {
      few = few_stretch u o (J - G) few (λ y. let x = z y in omega arith);
      front = omega arith;
      back = omega arith;
      meet = omega arith;
      all = omega arith;
      within = omega arith;
    }

-- the rows of the ranges
reaches : (o a n k m s len : ℕ) → o ≤ n → o ≤ m → k + o ≡ a + n → s + o ≡ n + m → a + s ≤ len → (a ≤ k) × (k ≤ k + o) × (k + o ≤ k + m) × (k ≤ len) × (k + o ≤ len) × (k + m ≤ len)
reaches o a n k m s len p q e f h = (omega arith, omega arith, omega arith, omega arith, omega arith, omega arith)

some_len : (a s len : ℕ) → 0 < s → a + s ≤ len → 0 < len
some_len a s len p q = omega arith

lists_cut : (u : Under) (w : ℕ) (t : Ty) (x : Column (t_list w t)) → Source (t_list w t) x → AnyCuts t (under_list u) x.body.child → Cuts (t_list w t) u x
lists_cut u w t x g kid o a n k m s h sn sm c d e p q =
    let b = x.body in
    let i : ℕ → ℕ = item w b.offsets in
    let A = x.off + a in
    let K = x.off + k in
    let r = g.slots.offsets_rule_lem in
    let y = lists_asked w (ask_copy t) b A c n sn d p in
    let z = lists_asked w (ask_copy t) b K d m sm e q in
    let f = spread x.off x.len _ o a n k m s h.meet h.all h.within (le_same (x.off + x.len)) in
    let v = reaches o a n k m s x.len h.front h.back h.meet h.all h.within in
    let some = some_sum o n m s h.all h.back sn in
    let near : i (K + o) ≡ i (x.off + (k + o)) = ap i (add_assoc x.off k o) in
    let far : i (K + m) ≡ i (x.off + (k + m)) = ap i (add_assoc x.off k m) in
    let end : i (A + s) ≡ i (x.off + (a + s)) = ap i (add_assoc x.off a s) in
    let up : (j l : ℕ) → j ≤ l → l ≤ x.len → i (x.off + j) ≤ i (x.off + l) = offset_up w b.offsets b.child.len x.off x.len r in
    let ranges =
    stretched u b.child.len o (i A) (i (A + n)) (i K) (i (K + m)) (i (K + o)) (i (A + s)) h.few (ap i f.0) (ap i f.1) (up a k v.0 v.3)
    (rw near (up k (k + o) v.1 v.4)) (rw (near, far) (up (k + o) (k + m) v.2 v.5))
    (rw end (offset_in_lem w b.offsets b.child.len x.off x.len r (some_len a s x.len some h.within) (a + s) h.within))
    (λ z. ap (λ j. i (K + j)) z ∙ ap i (add-zero K)) in
    let l =
    kid (i (K + o) - i K) (i A) (i (A + n) - i A) (i K) (i (K + m) - i K) (i (A + s) - i A) ranges (kid_of c 0) y.kid z.kid y.kid_done
    (ap (ask_of (ask_copy t) b.child (i K) (i (K + m) - i K)) (sym (ap (λ j. kid_of j 0) y.is)) ∙ z.kid_done) in
    let rd : rows_of d ≡ rows_of c + n = ap rows_of y.is in
    let rk : rows_of (kid_of d 0) ≡ rows_of (kid_of c 0) + (i (A + n) - i A) = ap (λ j. rows_of (kid_of j 0)) y.is ∙ rows_after t b.child.body _ _ (kid_of c 0) y.kid y.kid_done in
    record {
      value = counts (rows_of c + s) 0 (λ j. l.value);
      is =
          lists_ask w (ask_copy t) b A c s some l.value
          (sum_fits (rows_of (kid_of c 0)) (rows_of (kid_of d 0)) (i (K + o) - i K) (i (A + n) - i A) (i (K + m) - i K) (i (A + s) - i A) (half w) rk ranges.all z.fits) l.is;
      holds = subst (Cut (t_list w t) u _) (sym z.is) (record { rows_less = sum_less (rows_of c) (rows_of d) o n m s rd h.all; below_less = l.holds });
    }

-- ---- sparse unions

sparse_cut : (u : Under) (ids : List ℕ) (nullable : ℕ → Bool) (f : ℕ → Ty) (x : Column (t_sparse ids nullable f)) → Source (t_sparse ids nullable f) x
    → ((e : ℕ) → Memᴰ e ids → Cuts (f e) u (x.body.children e)) → Cuts (t_sparse ids nullable f) u x
sparse_cut u ids nullable f x g kid o a n k m s h sn sm c d e p q =
    let ask : ℕ → ℕ → Counts → ℕ → Try Counts = λ a n c i. ask_of (ask_copy (f i)) (x.body.children i) (x.off + a) n (kid_of c i) in
    let y = sparse_asked ids (ask a n c) (rows_of c + n) d p in
    let z = sparse_asked ids (ask k m d) (rows_of d + m) e q in
    let rd : rows_of d ≡ rows_of c + n = ap rows_of y.is in
    let dk : (i : ℕ) → Memᴰ i ids → ask a n c i ≡ done (kid_of d i) =
    λ i v. after_is _ (y.all_done i v).value (y.all_done i v).is ∙ ap done (sym (among_in (λ i. after (ask a n c i) absent) v)) ∙ ap (λ w. done (kid_of w i)) (sym y.is) in
    let go : (i : ℕ) → Memᴰ i ids → Led (λ v. Cut (f i) u v (after (ask k m d i) absent)) (ask a s c i) =
    λ i v.
    kid i v o (x.off + a) n (x.off + k) m s
    (record {
      few = h.few;
      front = h.front;
      back = h.back;
      meet = omega (arith, h.meet);
      all = h.all;
      within = omega (arith, h.within, g.slots.long i v);
    })
    sn sm
    (kid_of c i) (kid_of d i) (after (ask k m d i) absent) (dk i v) (after_is _ (z.all_done i v).value (z.all_done i v).is) in
    record {
      value = counts (rows_of c + s) 0 (among ids (λ i. after (ask a s c i) absent));
      is = each_is _ ids _ (λ i v. record { value = (go i v).value; is = (go i v).is });
      holds =
          subst (Cut (t_sparse ids nullable f) u _) (sym z.is)
          (record {
            rows_less = omega (arith, rd, h.all);
            below_less =
                among_cut f u ids _ _ (λ i v. subst (λ w. Cut (f i) u (after w absent) (after (ask k m d i) absent)) (sym (go i v).is) (go i v).holds);
          });
    }

-- ---- run-end columns

-- the next slot is in the same run or the next
next_run : (e : ℕ → ℕ) (c : ℕ) → ((r : ℕ) → r < c → start_of e r < e r) → (i j : ℕ) → j ≤ suc i → i < start_of e c → j < start_of e c → first_above e j 0 c ≤ suc (first_above e i 0 c)
next_run e c rises i j q li l = go (dec_lt (suc r) s)
  where
    r : ℕ
    r = first_above e i 0 c

    s : ℕ
    s = first_above e j 0 c

    go : Dec (suc r < s) → s ≤ suc r
    go (yes z) =
        let f = found e c i li in
        let g = found e c j l in
        absurd (omega (arith, f.below, g.above, rises (suc r) (omega (arith, g.is_run_lem)), start_le e c rises (suc (suc r)) s z (omega (arith, g.is_run_lem))))
    go (no z) = omega arith

-- v runs are handed down twice: at most one where runs are counted
few_cut : (u : Under) (o v : ℕ) → Few u o → (o ≤ 1 → v ≤ 1) → Few (under_runs u) v
few_cut outside o v h k = k (omega arith)
few_cut in_runs o v h k = k h
few_cut exempt o v h k = tt

one_cut : (u : Under) (o v x y : ℕ) → Few u o → (o ≤ 1 → v ≤ 1) → y ≡ x + v → OneRunMore u x y
one_cut outside o v x y h k e = omega (arith, k (omega arith))
one_cut in_runs o v x y h k e = omega (arith, k h)
one_cut exempt o v x y h k e = tt

-- the runs that two stretches touch: F and L the first and the last run of the first, G and H those of the second
record Touched (c o F L G H : ℕ) : Type 0 where
  first : F ≤ L
  near : G ≤ suc L
  second : G ≤ H
  begin : F ≤ G
  finish : L ≤ H
  below : H < c
  once : o ≤ 1 → L ≤ G

touched : (e : ℕ → ℕ) (c : ℕ) → ((r : ℕ) → r < c → start_of e r < e r) → (o A n K m s : ℕ) → 0 < n → 0 < m → o ≤ n → o ≤ m → K + o ≡ A + n → K + m ≡ A + s → A + s ≤ start_of e c
    → Touched c o (first_above e A 0 c) (first_above e (A + n - 1) 0 c) (first_above e K 0 c) (first_above e (K + m - 1) 0 c)
touched e c rises o A n K m s sn sm front back seam end top =
    let kl : K < start_of e c = omega arith in
    let ml : K + m - 1 < start_of e c = omega arith in
    let nl : A + n - 1 < start_of e c = omega arith in
    record {
      first = find_le e c rises A (A + n - 1) (omega arith) nl;
      near = next_run e c rises (A + n - 1) K (omega arith) nl kl;
      second = find_le e c rises K (K + m - 1) (omega arith) ml;
      begin = find_le e c rises A K (omega arith) kl;
      finish = find_le e c rises (A + n - 1) (K + m - 1) (omega arith) ml;
      below = (found e c (K + m - 1) ml).is_run_lem;
      once = λ i. find_le e c rises (A + n - 1) K (omega arith) kl;
    }

touched_once : (c o F L G H : ℕ) → Touched c o F L G H → o ≤ 1 → suc L - G ≤ 1
touched_once c o F L G H t i = omega (arith, t.once i)

-- what their values are handed
touched_ranges : (u : Under) (c o F L G H len S : ℕ) → Touched c o F L G H → Few u o → S ≡ H → len ≡ c → Ranges (under_runs u) len (suc L - G) F (suc L - F) G (suc H - G) (suc S - F)
touched_ranges u c o F L G H len S t few e q =
    let first = t.first in
    let near = t.near in
    let second = t.second in
    let begin = t.begin in
    let finish = t.finish in
    let below = t.below in
    record {
      few = few_cut u o (suc L - G) few (touched_once c o F L G H t);
      front = omega arith;
      back = omega arith;
      meet = omega arith;
      all = omega arith;
      within = omega arith;
    }

-- how many values there are then
touched_rows : (u : Under) (c o F L G H S : ℕ) → Touched c o F L G H → Few u o → S ≡ H → (r x y y' z : ℕ) → x ≡ r + (suc S - F) → y ≡ r + (suc L - F) → y' ≡ y → z ≡ y' + (suc H - G) → OneRunMore u x z
touched_rows u c o F L G H S t few e r x y y' z a b d f =
    let first = t.first in
    let near = t.near in
    let second = t.second in
    let begin = t.begin in
    let finish = t.finish in
    one_cut u o (suc L - G) x z few (touched_once c o F L G H t) (omega arith)

runs_cut : (u : Under) (w : ℕ) (t : Ty) (x : Column (t_run_end w t)) → Source (t_run_end w t) x → Cuts t (under_runs u) x.body.values → Cuts (t_run_end w t) u x
runs_cut u w t x g kid o a n k m s h sn sm c d e p q =
    let b = x.body in
    let A = x.off + a in
    let K = x.off + k in
    let y = runs_asked w (ask_copy t) b A c n sn d p in
    let z = runs_asked w (ask_copy t) b K d m sm e q in
    let f = spread x.off x.len _ o a n k m s h.meet h.all h.within g.slots.covers in
    let v = touched (end_of w b.ends) b.ends.len g.slots.rises o A n K m s sn sm h.front h.back f.0 f.1 f.2 in
    let last : first_run w b (A + s - 1) ≡ first_run w b (K + m - 1) = ap (λ i. first_run w b (i - 1)) (sym f.1) in
    let l =
    kid _ (first_run w b A) (run_count w b A n) (first_run w b K) (run_count w b K m) (run_count w b A s)
    (touched_ranges u b.ends.len o _ (first_run w b (A + n - 1)) _ (first_run w b (K + m - 1)) b.values.len _ v h.few last g.slots.as_many)
    (some_less _ _ v.first) (some_less _ _ v.second)
    (kid_of c 0) y.kid z.kid y.kid_done (ap (ask_of (ask_copy t) b.values (first_run w b K) (run_count w b K m)) (sym (ap (λ j. kid_of j 0) y.is)) ∙ z.kid_done) in
    let rd : rows_of d ≡ rows_of c + n = ap rows_of y.is in
    record {
      value = counts (rows_of c + s) (min (bytes_of c) 1) (λ j. l.value);
      is = runs_ask w (ask_copy t) b A c s (some_sum o n m s h.all h.back sn) l.value (sum_fits (rows_of c) (rows_of d) o n m s (half w) rd h.all z.fits) l.is;
      holds =
          subst (Cut (t_run_end w t) u _) (sym z.is)
          (record {
            rows_less = sum_less (rows_of c) (rows_of d) o n m s rd h.all;
            below_less = (
              touched_rows u b.ends.len o _ (first_run w b (A + n - 1)) _ (first_run w b (K + m - 1)) _ v h.few last (rows_of (kid_of c 0)) (rows_of l.value) (rows_of y.kid) (rows_of (kid_of d 0)) (rows_of z.kid)
                  (rows_after t b.values.body _ _ (kid_of c 0) l.value l.is) (rows_after t b.values.body _ _ (kid_of c 0) y.kid y.kid_done) (ap (λ j. rows_of (kid_of j 0)) y.is)
                  (rows_after t b.values.body _ _ (kid_of d 0) z.kid z.kid_done),
              l.holds,
            );
          });
    }

-- ---- empty halves

any_of : (u : Under) (t : Ty) (x : Column t) → Cuts t u x → AnyCuts t u x
any_of u t x cuts o a zero k m s h c d e p q =
    let less = copy_more u t x.body (x.off + a) 0 (few_none u) c d p in
    let l = copy_again u t x.body (x.off + k) m c d e less q in
    let y : a ≡ k = omega (arith, h.front, h.meet) in
    let z : s ≡ m = omega (arith, h.front, h.all) in
    record { value = l.value; is = ap₂ (λ i j. ask_of (ask_copy t) x i j c) y z ∙ l.is; holds = l.holds }
any_of u t x cuts o a (suc n) k zero s h c d e p q =
    let z : s ≡ suc n = omega (arith, h.back, h.all) in
    record { value = d; is = ap (λ j. ask_of (ask_copy t) x a j c) z ∙ p; holds = copy_more u t x.body (x.off + k) 0 (few_none u) d e q }
any_of u t x cuts o a (suc n) k (suc m) s h c d e p q = cuts o a (suc n) k (suc m) s h (omega arith) (omega arith) c d e p q

-- ---- every type

cuts : (u : Under) (t : Ty) (x : Column t) → Source t x → Cuts t u x
cuts u (t_plain p) x g = plain_cut u p x g
cuts u t_view x g = λ o a n k m s h sn sm c d e p q. rows_cut t_view u (λ x y. tt) n m s (omega (arith, h.all)) c d e p q
cuts u (t_list_view w t) x g = steps_cuts (t_list_view w t) u x (list_view_row w (ask_copy t) x.body) (λ a n c. refl)
cuts u (t_list w t) x g = lists_cut u w t x g (any_of (under_list u) t x.body.child (cuts (under_list u) t x.body.child g.slots.child_rule))
cuts u (t_sparse ids nullable f) x g = sparse_cut u ids nullable f x g (λ e v. cuts u (f e) (x.body.children e) (g.slots.child_rule e v))
cuts u (t_dense ids nullable f) x g = steps_cuts (t_dense ids nullable f) u x (dense_row (λ e. ask_copy (f e)) x.body) (λ a n c. refl)
cuts u (t_run_end w t) x g = runs_cut u w t x g (cuts (under_runs u) t x.body.values g.slots.child_rule)
cuts u (t_dictionary k p) x g = λ o a n k' m s h sn sm c d e p' q. rows_cut (t_dictionary k p) u (λ x y. tt) n m s (omega (arith, h.all)) c d e p' q

-- A COPY CUT IN TWO, an empty half included, wherever the node stands
pub any_cut : (u : Under) (t : Ty) (x : Column t) → Source t x → AnyCuts t u x
any_cut u t x g = any_of u t x (cuts u t x g)

-- .. at the root
pub copy_cut : (t : Ty) (x : Column t) → Source t x → (a n m : ℕ) → a + (n + m) ≤ x.len → (c d e : Counts)
    → ask_of (ask_copy t) x a n c ≡ done d → ask_of (ask_copy t) x (a + n) m d ≡ done e → Led (λ v. Cut t outside v e) (ask_of (ask_copy t) x a (n + m) c)
copy_cut t x g a n m h c d e p q =
    any_cut outside t x g 0 a n (a + n) m (n + m) (record { few = refl; front = omega arith; back = omega arith; meet = omega arith; all = omega arith; within = h }) c d e p q
