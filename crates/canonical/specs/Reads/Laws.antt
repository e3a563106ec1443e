-- For `canon_is_read_back` and the laws beside it: canonical text is read back as its module.
use Rattle.std.specs.Prelude.{◌≡◌, ◌↔◌, None}
use Rattle.ir_lexer.specs.Pieces.{tokens_of}
use Rattle.ir_lexer.specs.Tokens.{Tokens}
use Rattle.type_table.specs.declared.measure.TheConstants.{NESTING_LIMIT}
use Rattle.module_arena.specs.Module.{Module}
use Rattle.module_arena.specs.WellFormed.{IsWellFormed}
use Rattle.module_arena.specs.Valid.{IsValid}
use Rattle.canonical.specs.Canonical.{canon_pieces, canon}
use Rattle.canonical.specs.Items.Items.{canon_items, HasItemsAs}
use Rattle.canonical.specs.Law.Texts.{IsWritable}
use Rattle.name_rules.specs.ModuleOf.{module_of_items}
use Rattle.name_rules.specs.Breaks.{first_break}
use Rattle.name_rules.specs.Reads.{Reads}

-- a module that is well formed and valid
pub record IsGoodModule (m : Module) : Type 0 where
  pub well_formed : IsWellFormed m
  pub valid : IsValid m

-- such a module can be written so that its text is read back
abbrev pub IsWritten : Type 0
IsWritten = (m : Module) → IsGoodModule m → IsWritable NESTING_LIMIT m

-- the tokens of its canonical text are the spellings of its pieces
abbrev pub HasItsTokens : Type 0
HasItsTokens = (m : Module) → IsGoodModule m → Tokens (canon m) (tokens_of (canon_pieces m))

-- these tokens are its items
abbrev pub HasItsItems : Type 0
HasItsItems = (m : Module) → IsGoodModule m → HasItemsAs (canon m) (canon_items m)

-- it is the module of its canonical items
abbrev pub IsOfItsItems : Type 0
IsOfItsItems = (m : Module) → IsGoodModule m → module_of_items (canon_items m) ≡ m

-- its canonical items break no rule
abbrev pub IsUnbroken : Type 0
IsUnbroken = (m : Module) → IsGoodModule m → first_break (canon_items m) ≡ None

-- its canonical text is read as it, and as nothing else
abbrev pub IsReadBack : Type 0
IsReadBack = (m : Module) → IsGoodModule m → (n : Module) → Reads (canon m) n ↔ (n ≡ m)

-- no two such modules have one canonical text
abbrev pub IsTheirOwn : Type 0
IsTheirOwn = (m n : Module) → IsGoodModule m → IsGoodModule n → canon m ≡ canon n → m ≡ n
