-- Dictionaries at an opening, node by node down a type: what is lent of their values, and the joined ones in counters and memory.
-- Assumes nothing.
use Rattle.std.specs.Prelude.{◌≡◌, true, false, List, ℕ, suc, ◌<◌}
use Rattle.std.proofs.Math.Option.{some}
use Rattle.columnar.specs.Types.{Number, Plain, Ty, t_plain}
use Rattle.columnar.specs.Plain.{PlainBody}
use Rattle.columnar.specs.Dictionary.{Dictionary}
use Rattle.columnar.specs.Reading.{Body}
use Rattle.columnar.specs.Kids.{Below, nodes_down}
use Rattle.schema.specs.formats.Code.{is_integer}
use Rattle.schema.specs.formats.Types.{number_of}
use Rattle.model.specs.Try.{done}
use Rattle.model.specs.Opening.{keeps, shared}
use Rattle.model.specs.Mutable.{Mutable, start_node}
use Rattle.model.specs.Primitive.{plain_start}
use Rattle.model.specs.Transform.{joined_from}
use Rattle.walk.specs.State.{code_of, dictionary_of, end_of}
use Rattle.refinement.specs.walk_is_model.Memory.{Memory}
use Rattle.refinement.specs.walk_is_model.Holds.{in_plan, WordedPlain, Holds}
use Rattle.refinement.specs.walk_is_model.Lent.{LentNode, LentPlain}
use Rattle.refinement.specs.orders.Order.{Lent, join_of}

-- ---- what is lent

-- node i holds the keys of a dictionary, the node behind it the values, in every source
pub record ValuesLent (x : Lent) (k : Number) (p : Plain) (i m : ℕ) (ss : ℕ → Dictionary (PlainBody p)) : Type 0 where
  pub whole_key : is_integer (code_of x.plan i) ≡ true
  pub key_is : number_of (code_of x.plan i) ≡ some k
  pub small : suc i < 32
  pub plain_is : WordedPlain x.plan p (suc i)
  pub no_keys : dictionary_of x.plan (suc i) ≡ 0
  pub ends : end_of x.plan (suc i) ≡ suc (suc i)
  pub lent : (s : ℕ) → s < m → LentNode (join_of x s) (suc i) (LentPlain (join_of x s) p (suc i)) (ss s).values

-- every dictionary from node i on
abbrev pub EntriesLent : Lent → (t : Ty) → ℕ → ℕ → (ℕ → Body t) → Type 0
EntriesLent x t i m ss = Below {X = λ t. ℕ × (ℕ → Body t)} (nodes_down (in_plan x.plan)) (λ y. Unit {0}) (λ k p y. ValuesLent x k p y.0 m y.1) t (i, ss)

-- ---- what is joined

-- the dictionaries whose keys are node i, if they are joined, are held at the node behind
abbrev pub JoinsAt : List ℕ → (p : Plain) → ℕ → ℕ → (ℕ → Dictionary (PlainBody p)) → List ℕ → Memory → Type 0
JoinsAt plan p i m ds c μ =
    shared m ds ≡ false
    → (e : Mutable (PlainBody p))
    × (joined_from p (λ j. (ds j).values) m (start_node (keeps false m (λ j. (ds j).values)) (plain_start p)) ≡ done e)
    × Holds plan (t_plain p) (suc i) e c μ

-- EVERY DICTIONARY THAT IS JOINED, from node i on: "A joined dictionary has parts"
abbrev pub Joins : List ℕ → (t : Ty) → ℕ → ℕ → (ℕ → Body t) → List ℕ → Memory → Type 0
Joins plan t i m ss c μ = Below {X = λ t. ℕ × (ℕ → Body t)} (nodes_down (in_plan plan)) (λ y. Unit {0}) (λ k p y. JoinsAt plan p y.0 m y.1 c μ) t (i, ss)
