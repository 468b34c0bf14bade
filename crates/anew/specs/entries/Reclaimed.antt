-- A dictionary column written anew with the entries in use (W9). Assumes nothing.
use Rattle.std.specs.Prelude.{true, cond, List, [], ◌∷◌, ℕ, ltb}
use Rattle.std.proofs.Math.Option.{some}
use Rattle.columnar.specs.Row.{seg}
use Rattle.columnar.specs.Types.{Number, width, Plain, t_dictionary}
use Rattle.columnar.specs.Array.{Array, null_count_of}
use Rattle.columnar.specs.Entries.{encodes}
use Rattle.columnar.specs.Plain.{PlainBody}
use Rattle.columnar.specs.Reading.{Column}
use Rattle.model.specs.Try.{Try, done, then, after}
use Rattle.model.specs.Mutable.{Mutable, extend_node, start_node, freeze_node, validity}
use Rattle.model.specs.Primitive.{plain_extend, plain_start}
use Rattle.anew.specs.runs.Runs.{ok_at}
use Rattle.anew.specs.entries.Used.{key_at, rank, kept}

-- "each copied as an order copies it": entry e, one row, behind those that were copied before
abbrev pub copy_each : (p : Plain) → Array (PlainBody p) → List ℕ → Mutable (PlainBody p) → Try (Mutable (PlainBody p))
copy_each p v [] d = done d
copy_each p v (e ∷ es) d = then (extend_node true (λ ss j. plain_extend p (ss j)) (λ j. v) 0 e 1 d) (copy_each p v es)

-- where the copies begin: "a node keeping nulls exactly where the node it comes from has one"
abbrev pub fresh_node : (p : Plain) → Array (PlainBody p) → Mutable (PlainBody p)
fresh_node p v = start_node (ltb 0 (null_count_of v)) (plain_start p)

-- the entries es of a dictionary, finished
abbrev pub entries_of : (p : Plain) → Array (PlainBody p) → List ℕ → Array (PlainBody p)
entries_of p v es = freeze_node true (λ b. b) (after (copy_each p v es (fresh_node p v)) (fresh_node p v))

-- "renumber the keys; keys under nulls become 0"
abbrev pub new_key : (k : Number) (p : Plain) → Column (t_dictionary k p) → ℕ → ℕ
new_key k p x i = cond (ok_at x i) (rank k x (key_at k x i)) 0

-- "Write a column anew with only the entries that some valid key names", laid out as a finished array of offset 0
abbrev pub reclaimed : (k : Number) (p : Plain) → Column (t_dictionary k p) → Column (t_dictionary k p)
reclaimed k p x =
    record {
      len = x.len;
      off = 0;
      valid = validity true (some (seg (ok_at x) 0 x.len));
      body =
          record {
            keys = encodes (width k) (seg (new_key k p x) 0 x.len);
            values = entries_of p x.body.values (kept k x);
            starts = [];
          };
    }
