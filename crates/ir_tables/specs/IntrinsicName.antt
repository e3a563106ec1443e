-- For `of_name` of `Intrinsic`: the names of the intrinsics over integers (LangRef, "Intrinsic Functions").
use Rattle.std.specs.Prelude.{◌≡◌, ℕ, ◌%◌, ◌≤◌, List, ◌++◌, codes, Bool, true, ◌==◌, IsTrue}
use Rattle.std.specs.Fmt.{decimal}
use Rattle.ir_tables.specs.declared.intrinsic.Intrinsic.{Intrinsic}
use Rattle.ir_tables.specs.declared.intrinsic.Intrinsic.TheVariants.{Bswap}
use Rattle.ir_tables.specs.declared.width.TheConstants.{WIDEST}
use Rattle.ir_tables.specs.Intrinsic.{intrinsic_word}

-- a number of bits, written in decimal
pub record IsWidthText (width : ℕ) (digits : List ℕ) : Type 0 where
  pub some : 1 ≤ width
  pub most : width ≤ WIDEST
  pub written : digits ≡ decimal width

-- bytes are reversed in pairs
abbrev pub has_width : Intrinsic → ℕ → Bool
has_width Bswap width = width % 16 == 0
has_width _ width = true

-- what stands before the width in its names
abbrev pub name_front : Intrinsic → List ℕ
name_front which = codes "llvm." ++ intrinsic_word which ++ codes ".i"

-- the intrinsic at this width has this name
pub record IsNamed (which : Intrinsic) (width : ℕ) (name : List ℕ) : Type 0 where
  pub some : 1 ≤ width
  pub most : width ≤ WIDEST
  pub whole : IsTrue (has_width which width)
  pub named : name ≡ name_front which ++ decimal width
