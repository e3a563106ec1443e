-- For `next` and `next_operand` of `Walker`: a walker over a judged stream, what is left of it, and what its calls
-- give.
use Rattle.std.specs.Prelude.{◌≡◌, ℕ, Bool, true, false, List, [], ◌∷◌, Option, Some, None, Result, Ok, Err, IsErr}
use Rattle.bit_stream.specs.Abbreviation.{AdmittedAbbreviation}
use Rattle.bit_tree.specs.Pieces.{Piece, begun, ended, defines, holds}
use Rattle.bit_dump.specs.declared.walk.event.Event.{Event}
use Rattle.bit_dump.specs.declared.walk.event.Event.TheVariants.{Begun, Ended, Defined, Held}

-- Whether it is spent; the entries and definitions that are left, in the order of the stream; of the record that was given
-- last the operands that are left, whether it ends in a blob, and the blob; and, behind a definition, the abbreviation that it
-- defines.
pub record Walker : Type 0 where
  pub spent : Bool
  pub left : List Piece
  pub operands : List ℕ
  pub has_blob : Bool
  pub blob : List ℕ
  pub abbreviation : AdmittedAbbreviation

-- what an event is, by what the walker holds behind it
abbrev pub piece_of : Event → Walker → Piece
piece_of (Begun block) w = begun block.id block.width block.words
piece_of Ended w = ended
piece_of (Defined id) w = defines id w.abbreviation
piece_of (Held head) w = holds head.id head.code w.operands w.has_blob w.blob

-- where no record was given last, there are no operands and there is no blob
abbrev pub IsBare : Option Event → Walker → Type 0
IsBare None w = (w.operands ≡ []) × (w.has_blob ≡ false) × (w.blob ≡ [])
IsBare (Some (Begun block)) w = (w.operands ≡ []) × (w.has_blob ≡ false) × (w.blob ≡ [])
IsBare (Some Ended) w = (w.operands ≡ []) × (w.has_blob ≡ false) × (w.blob ≡ [])
IsBare (Some (Defined id)) w = (w.operands ≡ []) × (w.has_blob ≡ false) × (w.blob ≡ [])
IsBare (Some (Held head)) w = Unit {0}

-- the next entry or definition was given and the others are left, or none was left
abbrev pub Gave : Walker → Option Event → Walker → Type 0
Gave old (Some event) new = (new.spent ≡ false) × (old.left ≡ piece_of event new ∷ new.left)
Gave old None new = (new.spent ≡ false) × (old.left ≡ []) × (new.left ≡ [])

-- the same, or memory ran out, and the walker is spent
abbrev pub Walked : {E : Type 0} → Walker → Result (Option Event) E → Walker → Type 0
Walked old (Ok event) new = Gave old event new
Walked old (Err e) new = new.spent ≡ true

-- the same at any walker: one that is spent answers want of memory again
abbrev pub Walks : {E : Type 0} → Bool → Walker → Result (Option Event) E → Walker → Type 0
Walks true old answer new = IsErr answer × (new ≡ old)
Walks false old answer new = Walked old answer new

-- the next operand was given and the others are left, or none was left; nothing else changes
abbrev pub Took : Walker → Option ℕ → Walker → Type 0
Took old None new = (old.operands ≡ []) × (new ≡ old)
Took old (Some n) new = (old.operands ≡ n ∷ new.operands) × (new ≡ record old { operands = new.operands })
