-- What an `ensures` says of a slice that is lent. Assumes nothing.
use Rattle.std.specs.Prelude.{List, ℕ}
use Rattle.std.specs.Borrow.{Bor, MutBor}
use denote.Triple.Both.{Both}

-- what a slice that is only read holds
abbrev pub was : {A B : Type 0} → Both (Bor A) B → A
was x = x.entry.now

-- what a slice that is lent to be changed holds at the call
abbrev pub began : {A B : Type 0} → Both (MutBor A) B → A
began x = x.entry.now

-- .. and at the return
abbrev pub left : {A B : Type 0} → Both A (MutBor B) → B
left x = x.exit.now

-- a slice or an array of numbers that is only read
abbrev pub Slice : Type 0
Slice = Both (Bor (List ℕ)) (Bor (List ℕ))

-- .. and one that is lent to be changed
abbrev pub MutSlice : Type 0
MutSlice = Both (MutBor (List ℕ)) (MutBor (List ℕ))
