-- Entries copied one by one: the copies are never refused, and what they lay out. Assumes nothing.
use mathlib.Core.Path.{◌≡◌, refl, sym, ap, subst, ◌∙◌}
use mathlib.Core.Bool.{Bool, true, false}
use mathlib.Core.Option.{Option, none, some}
use mathlib.Core.List.{List, [], ◌∷◌, ◌++◌, map, map-append, append-nil, append_assoc}
use Prim.Native.Nat.{ℕ, zero, suc, ◌+◌, ◌-◌, ◌<◌}
use native.Mathlib.Nat.{zero-add, add_assoc}
use native.Mathlib.Omega.{arith}
use lib.ListN.{length, get_or, length-append, length-map, get_or-append}
use lib.Dec.{ltb}
use borrow.Author.Tests.{ltb-false}
use Rattle.number.specs.Number.{encode}
use Rattle.columnar.specs.Types.{Plain, fixed, string}
use Rattle.columnar.specs.Array.{Array, ok, null_count_of}
use Rattle.columnar.specs.Plain.{PlainBody, stored}
use Rattle.model.specs.Try.{done, then, after}
use Rattle.model.specs.Mutable.{Mutable, extend_node, start_node, freeze_node, validity, zeros, pack}
use Rattle.model.specs.Primitive.{plain_extend, plain_start}
use Rattle.model.proofs.Bits.{zeros_append}
use Rattle.model.proofs.Start.{no_null_in}
use Rattle.anew.specs.runs.Runs.{ok_at}
use Rattle.anew.proofs.runs.Picked.{Inside}
use Rattle.anew.specs.entries.Reclaimed.{copy_each, fresh_node, entries_of}
use Rattle.anew.proofs.entries.Built.{total, built, Holds, Long, built_more}

total_append : (bs cs : List (List ℕ)) → total (bs ++ cs) ≡ total bs + total cs
total_append [] cs = sym (zero-add (total cs))
total_append (b ∷ bs) cs = rw (total_append bs cs) (sym (add_assoc (length b) (total bs) (total cs)))

-- what holds of all holds of the first of them
holds_front : (p : Plain) (bs cs : List (List ℕ)) → Holds p (bs ++ cs) → Holds p bs
holds_front (fixed k) bs cs h = λ j q. ap length (sym (get_or-append bs cs [] j q)) ∙ h j (rw length-append (omega arith))
holds_front (string w) bs cs h = omega (arith, h, total_append bs cs)

module _ (p : Plain) (v : Array (PlainBody p)) where
  -- the bytes of entry e
  abbrev pub bytes_at : ℕ → List ℕ
  bytes_at e = stored p v.body (v.off + e)

  -- the entries es as they are laid out
  abbrev pub chosen : List ℕ → Array (PlainBody p)
  chosen es = record { len = length es; off = 0; valid = validity true (some (map (ok_at v) es)); body = built p (map bytes_at es) }

  -- .. while they grow, where nulls are kept and where not
  abbrev pub grown : Bool → List ℕ → Mutable (PlainBody p)
  grown true es = record { len = length es; null_count = zeros (map (ok_at v) es); bits = some (map (ok_at v) es); «data» = built p (map bytes_at es) }
  grown false es = record { len = length es; null_count = 0; bits = none; «data» = built p (map bytes_at es) }

  data_more : (ds : List ℕ) (e : ℕ) → Holds p (map bytes_at (ds ++ (e ∷ []))) → Long p v.body (v.off + e)
      → plain_extend p v.body (v.off + e) 1 (length ds) (built p (map bytes_at ds)) ≡ done (built p (map bytes_at (ds ++ (e ∷ []))))
  data_more ds e h l =
      let m = map-append bytes_at ds (e ∷ []) in
      rw (m, ← length-map ds bytes_at) (built_more p v.body (v.off + e) (map bytes_at ds) (subst (Holds p) m h) l)

  node_more : (b : Bool) (ds : List ℕ) (e : ℕ) → Holds p (map bytes_at (ds ++ (e ∷ []))) → Long p v.body (v.off + e)
      → extend_node true (λ ss j. plain_extend p (ss j)) (λ j. v) 0 e 1 (grown b ds) ≡ done (grown b (ds ++ (e ∷ [])))
  node_more true ds e h l = rw (data_more ds e h l, map-append (ok_at v) ds (e ∷ []), zeros_append, length-append)
  node_more false ds e h l = rw (data_more ds e h l, length-append)

  -- the copies of es behind those of ds
  copy_rest : (b : Bool) (es ds : List ℕ) → ((j : ℕ) → j < length es → Long p v.body (v.off + get_or es j 0)) → Holds p (map bytes_at (ds ++ es))
      → copy_each p v es (grown b ds) ≡ done (grown b (ds ++ es))
  copy_rest b [] ds l h = ap (λ n. done (grown b n)) (sym (append-nil ds))
  copy_rest b (e ∷ es) ds l h =
      let a : ds ++ (e ∷ []) ++ es ≡ ds ++ (e ∷ es) = append_assoc ds (e ∷ []) es in
      let g : Holds p (map bytes_at (ds ++ (e ∷ [])) ++ map bytes_at es) = subst (Holds p) (ap (map bytes_at) (sym a) ∙ map-append bytes_at (ds ++ (e ∷ [])) es) h in
      ap (λ t. then t (copy_each p v es)) (node_more b ds e (holds_front p (map bytes_at (ds ++ (e ∷ []))) (map bytes_at es) g) (l 0 (omega arith)))
      ∙ copy_rest b es (ds ++ (e ∷ [])) (λ j q. l (suc j) (omega arith)) (subst (λ n. Holds p (map bytes_at n)) (sym a) h)
      ∙ ap (λ n. done (grown b n)) a

  built_none : (q : Plain) → plain_start q ≡ built q []
  built_none (fixed k) = refl
  built_none (string w) = ap (λ s. record { offsets = s; chars = [] }) (sym (append-nil (encode w 0)))

  grown_none : (b : Bool) → start_node b (plain_start p) ≡ grown b []
  grown_none true = ap (λ x. record { len = 0; null_count = 0; bits = some []; «data» = x }) (built_none p)
  grown_none false = ap (λ x. record { len = 0; null_count = 0; bits = none; «data» = x }) (built_none p)

  -- THE COPIES ARE NEVER REFUSED
  pub copies_done : (es : List ℕ) → ((j : ℕ) → j < length es → Long p v.body (v.off + get_or es j 0)) → Holds p (map bytes_at es)
      → copy_each p v es (fresh_node p v) ≡ done (grown (ltb 0 (null_count_of v)) es)
  copies_done es l h = ap (copy_each p v es) (grown_none (ltb 0 (null_count_of v))) ∙ copy_rest (ltb 0 (null_count_of v)) es [] l h

  -- validity, where the dictionary has no null
  none_null : (es : List ℕ) → null_count_of v ≡ 0 → Inside es v.len → zeros (map (ok_at v) es) ≡ 0
  none_null [] e h = refl
  none_null (r ∷ es) e h = rw (no_null_in (ok v.valid) v.off v.len e r (h 0 (omega arith)), none_null es e (λ j q. h (suc j) (omega arith)))

  -- WHAT THEY LAY OUT
  pub laid_out_lem : (es : List ℕ) → Inside es v.len → ((j : ℕ) → j < length es → Long p v.body (v.off + get_or es j 0)) → Holds p (map bytes_at es) → entries_of p v es ≡ chosen es
  laid_out_lem es i l h = ap (λ t. freeze_node true (λ b. b) (after t (fresh_node p v))) (copies_done es l h) ∙ go (ltb 0 (null_count_of v)) refl
    where
      dropped : (z : ℕ) → z ≡ 0 → ◌≡◌ {A = Option (List ℕ)} none (elim z [ zero ↦ none | suc c ↦ some (pack (map (ok_at v) es)) ])
      dropped zero q = refl
      dropped (suc c) q = absurd (omega arith)

      go : (b : Bool) → ltb 0 (null_count_of v) ≡ b → freeze_node true (λ x. x) (grown b es) ≡ chosen es
      go true q = refl
      go false q =
          ap (λ y. record { len = length es; off = 0; valid = y; body = built p (map bytes_at es) })
          (dropped (zeros (map (ok_at v) es)) (none_null es (let z = ltb-false 0 (null_count_of v) q in omega (arith, z)) i))
