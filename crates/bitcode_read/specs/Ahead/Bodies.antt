-- For `declare_entries`: what is known ahead of the bodies of a module's block.
use Rattle.std.specs.Prelude.{◌≡◌, ◌≤◌, ℕ, nat_eq, Bool, true, false, List, [], ◌∷◌, ◌++◌, length, slice_get, ⊤, Option, Some, None, if◌then◌else◌}
use Rattle.module_arena.specs.declared.entry.LocalName as the_local
use Rattle.record_table.specs.Faults.{Records, no_more, a_block, a_record, body_id}
use Rattle.record_table.specs.Fields.{Texts, Numbering}
use Rattle.record_table.specs.Layout.{judged}
use Rattle.body_read.specs.declared.ahead.ahead.BodyAhead.{BodyAhead}
use Rattle.body_read.specs.Ahead.Ahead.{AreVoids, IsAhead}
use Rattle.bitcode_read.specs.Head.Fronts.{FunctionFields, function_front}

-- the names that a body gives, or none
abbrev pub names_or_none : Option (List the_local.LocalName) → List (the_local.LocalName)
names_or_none None = []
names_or_none (Some names) = names

-- the names that a body gives the parameters of its function
abbrev pub names_given : BodyAhead → List the_local.LocalName
names_given b = names_or_none b.names

-- how many parameters the function has, if it is defined: then its body is due
abbrev pub due_of : FunctionFields → List ℕ
due_of (name, (linkage, (defined, (returns, (variadic, types))))) = if defined then length types ∷ [] else []

module _ (texts : Texts) (k : Numbering) (types : ℕ) where
  -- behind a function's record more may be due; where it breaks a rule, it will be refused, and nothing is said of what is behind it
  abbrev pub ForeseesRecord : List ℕ → List BodyAhead → List ℕ → (List ℕ → List BodyAhead → Type 0) → Bool → Type 0
  ForeseesRecord due bodies operands behind false = behind due bodies
  ForeseesRecord due bodies operands behind true = let x = judged (function_front texts types) operands in x.1 ≡ None → behind (due ++ due_of x.0) bodies

  -- a body is of the first function whose body is due; where none is, it will be refused, and nothing is said of what is behind it
  abbrev pub ForeseesBlock : List ℕ → List BodyAhead → Records → (List ℕ → List BodyAhead → Type 0) → Bool → Type 0
  ForeseesBlock due bodies inside behind false = behind due bodies
  ForeseesBlock [] bodies inside behind true = ⊤
  ForeseesBlock (count ∷ due) [] inside behind true = ⊥
  ForeseesBlock (count ∷ due) (b ∷ bodies) inside behind true = IsAhead texts k count inside b × behind due bodies

  -- This is known of the bodies among these records, in their order, where in front of them bodies are due of functions with so
  -- many parameters each.
  abbrev pub Foresees : List ℕ → List BodyAhead → Records → Type 0
  Foresees due bodies no_more = ⊤
  Foresees due bodies (a_block id inside behind) = ForeseesBlock due bodies inside (λ due' bodies'. Foresees due' bodies' behind) (nat_eq id body_id)
  Foresees due bodies (a_record code operands behind) = ForeseesRecord due bodies operands (λ due' bodies'. Foresees due' bodies' behind) (nat_eq code 6)

-- ---- one record, and one block

-- the count of its parameters, where it is defined and they are known
abbrev pub count_due : Bool → Option (List ℕ) → List ℕ
count_due false parameters = []
count_due true None = []
count_due true (Some types) = length types ∷ []

-- a function's record was read, which may break a rule
pub record AddsDue (x : FunctionFields × Option ℕ) (old new : List ℕ) : Type 0 where
  pub more : x.1 ≡ None → new ≡ old ++ due_of x.0
  pub fewer : length old ≤ length new

-- the same of a record that is a function's or not
abbrev pub AddsWhere : Bool → FunctionFields × Option ℕ → List ℕ → List ℕ → Type 0
AddsWhere false x old new = new ≡ old
AddsWhere true x old new = AddsDue x old new

-- by its code
abbrev pub AddsIf : ℕ → FunctionFields × Option ℕ → List ℕ → List ℕ → Type 0
AddsIf code x old new = AddsWhere (nat_eq code 6) x old new

-- one body more is known, where one is due
pub record AddsOne (texts : Texts) (voids : List Bool) (count : ℕ) (held : Records) (old new : List BodyAhead) : Type 0 where
  pub body : BodyAhead
  pub more : new ≡ old ++ body ∷ []
  pub ahead : (k : Numbering) → AreVoids voids k → IsAhead texts k count held body

-- none is added where none is due
abbrev pub AddsWhereDue : Option ℕ → Texts → List Bool → Records → List BodyAhead → List BodyAhead → Type 0
AddsWhereDue None texts voids held old new = new ≡ old
AddsWhereDue (Some count) texts voids held old new = AddsOne texts voids count held old new

-- a body that stands behind those that are known
abbrev pub AddsBody : Texts → List Bool → List ℕ → Records → List BodyAhead → List BodyAhead → Type 0
AddsBody texts voids due held old new = AddsWhereDue (slice_get due (length old)) texts voids held old new

-- the same of a block that is a body's or not
abbrev pub AddsWhereBody : Bool → Texts → List Bool → List ℕ → Records → List BodyAhead → List BodyAhead → Type 0
AddsWhereBody false texts voids due held old new = new ≡ old
AddsWhereBody true texts voids due held old new = AddsBody texts voids due held old new

-- by its id
abbrev pub AddsIfBody : ℕ → Texts → List Bool → List ℕ → Records → List BodyAhead → List BodyAhead → Type 0
AddsIfBody id texts voids due held old new = AddsWhereBody (nat_eq id body_id) texts voids due held old new
