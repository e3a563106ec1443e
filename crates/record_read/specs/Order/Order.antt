-- For `ModulePart`, `read_version` and `read_module_text`: the order of a module's block, and its records of texts.
use Rattle.std.specs.Prelude.{◌≡◌, ℕ, suc, List, [], ◌∷◌, Option, Some, None}
use Rattle.record_table.specs.Fields.{Texts}
use Rattle.record_table.specs.Records as records
use Rattle.record_table.specs.Walk.{Walk, going}
use Rattle.record_read.specs.Reader.{Reader}
use Rattle.record_read.specs.declared.order.part.ModulePart.{ModulePart}
use Rattle.record_read.specs.declared.order.part.ModulePart.TheVariants as part

-- the places of the order
abbrev pub place_of : ModulePart → ℕ
place_of part.Version = 1
place_of part.Source = 2
place_of part.Layout = 3
place_of part.Triple = 4
place_of part.Types = 5
place_of part.Variable = 6
place_of part.Function = 7
place_of part.Alias = 8
place_of part.Body = 9

-- the record that was given last is behind the reader, and it is in front of the same as before
pub record IsBehindRecord (old new : Reader) : Type 0 where
  pub spent : new.spent ≡ old.spent
  pub left : new.left ≡ old.left
  pub at : new.at ≡ old.at

-- The record that was given last, of which these operands are left, stands behind what was read so far. What came last stands at that place.
pub record StandsBehind (texts : Texts) (last : ℕ) (r : Reader) (s : records.Sofar) (operands : List ℕ) : Type 0 where
  pub texts_are : s.texts ≡ texts
  pub last_is : s.last ≡ last
  pub walk : r.walk ≡ going operands None
  pub at : r.at ≡ suc s.at

-- the number, where none of these is behind it
abbrev pub IsAlone : ℕ → List ℕ → Option ℕ → Walk → Type 0
IsAlone number [] result walk = (result ≡ Some number) × (walk ≡ going [] None)
IsAlone number (n ∷ operands) result walk = (result ≡ None) × (walk ≡ going operands None)

-- the one operand, where there is one and no other
abbrev pub IsOnly : List ℕ → Option ℕ → Walk → Type 0
IsOnly [] result walk = (result ≡ None) × (walk ≡ going [] None)
IsOnly (number ∷ operands) result walk = IsAlone number operands result walk

-- there is none, or more than one
abbrev pub IsNoNumber : List ℕ → Type 0
IsNoNumber [] = Unit {0}
IsNoNumber (number ∷ []) = ⊥
IsNoNumber (number ∷ n ∷ operands) = Unit {0}
