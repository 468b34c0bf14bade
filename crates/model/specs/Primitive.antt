-- Fixed-width numbers, byte strings, views and keys. Follows arrow-data 60.1.0 src/transform/primitive.rs, variable_size.rs and the
-- views and dictionaries of mod.rs, Apache-2.0; see NOTICE. Assumes nothing.
use Rattle.std.specs.Prelude.{Bool, true, false, cond, List, [], ◌∷◌, ◌++◌, ℕ, zero, suc, ◌+◌, ◌-◌, ◌*◌, length, take, drop, replicate, ltb, leb}
use Rattle.number.specs.Number.{encode}
use Rattle.columnar.specs.Types.{Number, width, half, Plain, fixed, string}
use Rattle.columnar.specs.Array.{Array, item}
use Rattle.columnar.specs.Plain.{Text, PlainBody}
use Rattle.columnar.specs.Entries.{encodes}
use Rattle.columnar.specs.View.{Views, view_of, length_of, buffer_of}
use Rattle.model.specs.Try.{Try, done, then, guard}

-- `try_extend_offsets`: each new offset is the last one plus the source's difference; 6 where one does not fit
abbrev pub new_offsets : ℕ → List ℕ → ℕ → ℕ → ℕ → Try (List ℕ)
new_offsets w s a zero last = done []
new_offsets w s a (suc n) last =
    let next = last + (item w s (suc a) - item w s a) in
    guard (ltb next (half w)) 6 (then (new_offsets w s (suc a) n next) (λ os. done (encode w next ++ os)))

abbrev pub plain_extend : (p : Plain) → PlainBody p → ℕ → ℕ → ℕ → PlainBody p → Try (PlainBody p)
plain_extend (fixed k) s a n l d = done (d ++ take (n * width k) (drop (a * width k) s))
plain_extend (string w) s a n l d =
    let new = take (item w s.offsets (a + n) - item w s.offsets a) (drop (item w s.offsets a) s.chars) in
    then (new_offsets w s.offsets a n (item w d.offsets l)) (λ os. done (record { offsets = d.offsets ++ os; chars = d.chars ++ new }))

-- "A null slot is written as zeros"; "a null repeats the last offset, no bytes"
abbrev pub plain_null : (p : Plain) → ℕ → ℕ → PlainBody p → Try (PlainBody p)
plain_null (fixed k) n l d = done (d ++ replicate (n * width k) 0)
plain_null (string w) n l d = done (record { offsets = d.offsets ++ encodes w (replicate n (item w d.offsets l)); chars = d.chars })

-- the first zero offset of a byte string (`new_buffers`)
abbrev pub plain_start : (p : Plain) → PlainBody p
plain_start (fixed k) = []
plain_start (string w) = record { offsets = encode w 0; chars = [] }

-- "A view's buffer index rises by the number of data buffers in earlier sources if its length is above 12, and wraps in 32 bits."
unfoldable pub reindexed : ℕ → List ℕ → List ℕ
reindexed base v = cond (leb (length_of v) 12) v (take 8 v ++ encode 4 (buffer_of v + base) ++ drop 12 v)

abbrev pub new_views : ℕ → List ℕ → ℕ → ℕ → List ℕ
new_views base s a zero = []
new_views base s a (suc n) = reindexed base (view_of s a) ++ new_views base s (suc a) n

-- the data buffers of the first j sources, in order
abbrev pub buffers_before : (ℕ → Views) → ℕ → List (List ℕ)
buffers_before ss zero = []
buffers_before ss (suc j) = buffers_before ss j ++ (ss j).buffers
