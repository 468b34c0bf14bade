-- Entries that the model writes from the first on, as the walk's pieces of the body. Assumes nothing.
use mathlib.Core.Path.{◌≡◌, refl, sym, ap, ◌∙◌}
use mathlib.Core.List.{List, ◌++◌, append-nil, append_assoc}
use Prim.Native.Nat.{ℕ, zero, suc, ◌+◌}
use native.Mathlib.Nat.{add-zero, add-suc, suc-add}
use Rattle.number.specs.Number.{encode}
use Rattle.columnar.specs.Row.{seg}
use Rattle.columnar.specs.Entries.{encodes}
use Rattle.columnar.specs.Array.{item}
use Rattle.columnar.specs.View.{view_of}
use Rattle.utils.specs.Pieces.{pieces}
use Rattle.utils.specs.Offsets.{repeated}
use Rattle.utils.proofs.Pieces.{pieces_same}
use Rattle.model.specs.Primitive.{new_views, reindexed}
use Rattle.model.proofs.Names.{new_keys}

-- the first entry before the others
pub pieces_first : (f : ℕ → List ℕ) (n : ℕ) → pieces f (suc n) ≡ f 0 ++ pieces (λ k. f (suc k)) n
unfolding pieces
pieces_first f zero = sym (append-nil (f 0))
pieces_first f (suc n) = ap (◌++ f (suc n)) (pieces_first f n) ∙ append_assoc (f 0) (pieces (λ k. f (suc k)) n) (f (suc n))

-- .. where entry k is that of number a + k
next_first : (f : ℕ → List ℕ) (a n : ℕ) → pieces (λ k. f (a + k)) (suc n) ≡ f a ++ pieces (λ k. f (suc a + k)) n
next_first f a n =
    pieces_first (λ k. f (a + k)) n
    ∙ rw add-zero (ap (f a ++◌) (pieces_same (λ k. f (a + suc k)) (λ k. f (suc a + k)) n (λ k l. ap f (add-suc a k ∙ sym (suc-add a k)))))

pub keys_pieces : (w base : ℕ) (s : List ℕ) (a n : ℕ) → new_keys w base s a n ≡ pieces (λ k. encode w (item w s (a + k) + base)) n
unfolding pieces
keys_pieces w base s a zero = refl
keys_pieces w base s a (suc n) = ap (encode w (item w s a + base) ++◌) (keys_pieces w base s (suc a) n) ∙ sym (next_first (λ j. encode w (item w s j + base)) a n)

pub views_pieces : (base : ℕ) (s : List ℕ) (a n : ℕ) → new_views base s a n ≡ pieces (λ k. reindexed base (view_of s (a + k))) n
unfolding pieces
views_pieces base s a zero = refl
views_pieces base s a (suc n) = ap (reindexed base (view_of s a) ++◌) (views_pieces base s (suc a) n) ∙ sym (next_first (λ j. reindexed base (view_of s j)) a n)

pub encodes_pieces : (w : ℕ) (f : ℕ → ℕ) (a n : ℕ) → encodes w (seg f a n) ≡ pieces (λ k. encode w (f (a + k))) n
unfolding pieces
encodes_pieces w f a zero = refl
encodes_pieces w f a (suc n) = ap (encode w (f a) ++◌) (encodes_pieces w f (suc a) n) ∙ sym (next_first (λ j. encode w (f j)) a n)

pub repeated_pieces : (w v n : ℕ) → Rattle.model.proofs.Names.repeated w v n ≡ repeated w v n
unfolding repeated pieces
repeated_pieces w v zero = refl
repeated_pieces w v (suc n) = ap (encode w v ++◌) (repeated_pieces w v n) ∙ sym (pieces_first (λ k. encode w v) n)
