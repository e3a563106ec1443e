-- Says how the code reads: the operands of a record that are still left, one after another.
use Rattle.std.specs.Prelude.{◌≡◌, ℕ, zero, suc, List, [], ◌∷◌, Option, Some, None, Ok, Err, drop, if◌then◌else◌, ◌==◌}
use Rattle.bit_stream.specs.Bits.Cursor.{Cursor, Found, ◌>>=◌}
use Rattle.bit_stream.specs.Bits.Reading.{fixed, vbr}
use Rattle.bit_stream.specs.declared.abbreviation.ValueSpelling.{ValueSpelling}
use Rattle.bit_stream.specs.declared.abbreviation.ValueSpelling.TheVariants.{Chunks}
use Rattle.bit_stream.specs.declared.abbreviation.Tail.{Tail}
use Rattle.bit_stream.specs.declared.abbreviation.Tail.TheVariants.{NoTail, Elements, Bytes}
use Rattle.bit_stream.specs.Abbreviation.{AdmittedAbbreviation}
use Rattle.bit_stream.specs.Record.{value_by, code_by}
use Rattle.bit_dump.specs.declared.walk.values.OperandStage.{OperandStage}
use Rattle.bit_dump.specs.declared.walk.values.OperandStage.TheVariants.{Fields, Repeats, Over}

-- so many values of one spelling
unfoldable pub repeated : ValueSpelling → ℕ → Cursor → Found (List ℕ)
repeated s zero c = Ok ([], c)
repeated s (suc n) c = value_by s c >>= λ v d. repeated s n d >>= λ vs e. Ok (v ∷ vs, e)

-- values of these spellings, and those that the end of the abbreviation gives
unfoldable pub listed : List ValueSpelling → Tail → Cursor → Found (List ℕ)
listed [] NoTail c = Ok ([], c)
listed [] (Elements s) c = vbr 6 c >>= λ n d. repeated s n d
listed [] Bytes c = Ok ([], c)
listed (s ∷ ss) t c = value_by s c >>= λ v d. listed ss t d >>= λ vs e. Ok (v ∷ vs, e)

-- the operands that are left
unfoldable pub left_by : OperandStage → AdmittedAbbreviation → Cursor → Found (List ℕ)
left_by (Fields k) t c = listed (drop k t.operands) t.tail c
left_by (Repeats s n) t c = repeated s n c
left_by Over t c = Ok ([], c)

-- the operands of a record in front, which is by this abbreviation where its id is not 3
unfoldable pub operands_at : ℕ → AdmittedAbbreviation → Cursor → Found (List ℕ)
operands_at width t c = fixed width c >>= λ id d.
    if id == 3 then (code_by (Chunks 6) d >>= λ _ e. vbr 6 e >>= λ n f. repeated (Chunks 6) n f)
    else (code_by t.code d >>= λ _ e. listed t.operands t.tail e)

-- these operands are left
abbrev pub Leaves : Found (List ℕ) → List ℕ → Type 0
Leaves found ns = (d : Cursor) × (found ≡ Ok (ns, d))

-- some operands are left, none of them refused
abbrev pub IsRead : Found (List ℕ) → Type 0
IsRead found = (ns : List ℕ) × Leaves found ns

-- the next operand was given and the others are left, or none was left
abbrev pub Gave : List ℕ → Option ℕ → Found (List ℕ) → Type 0
Gave ns None later = (ns ≡ []) × Leaves later []
Gave ns (Some n) later = (others : List ℕ) × (ns ≡ n ∷ others) × Leaves later others

-- the operands that were found
abbrev pub list_of : Found (List ℕ) → List ℕ
list_of (Ok x) = x.0
list_of (Err fault) = []
