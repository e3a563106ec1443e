-- For `run_tool`, `accepted_is_not_refused` and `inputs_are_readable`: whether inputs are texts of modules, or bitcode that spells them, judged in the order of the words.
use Rattle.std.specs.Prelude.{◌≡◌, ◌⊎◌, ◌==◌, ◌≤◌, ℕ, Bool, List, [], ◌∷◌, ◌++◌, codes, length, Some, None, Err}
use Rattle.std.specs.Bool.{MatchBool}
use Rattle.std.specs.Fmt.{decimal}
use Rattle.std.specs.List.{starts_with}
use Rattle.bitcode_read.specs.Answers.{IsReadFault}
use Rattle.ir_syntax.specs.Answers.{HasItems}
use Rattle.ir_syntax.specs.Refusal.{IsRefused}
use Rattle.ir_syntax.specs.Tree.{ItemTree}
use Rattle.ir_syntax.specs.declared.read.SyntaxFault.{SyntaxFault}
use Rattle.ir_syntax.specs.declared.read.SyntaxFault.TheVariants as faults
use Rattle.module_arena.specs.EntityView.{entity_view}
use Rattle.module_arena.specs.Functions.{first_too_large}
use Rattle.module_arena.specs.Module.{LocalName, Module}
use Rattle.module_arena.specs.Module.LocalName.{Named, Numbered}
use Rattle.module_arena.specs.Valid.{Entity, IsValid}
use Rattle.name_rules.specs.Breaks.{first_break}
use Rattle.name_rules.specs.Reads.{Resolves}
use Rattle.name_rules.specs.Spelled.{name_spelling, spelled_global}
use Rattle.name_rules.specs.declared.fault.ResolveFault.{ResolveFault}
use Rattle.name_rules.specs.declared.fault.ResolveFault.TheVariants as breaks
use Rattle.record_read.specs.declared.fault.BitcodeFault.{BitcodeFault}
use Rattle.record_read.specs.declared.fault.BitcodeFault.TheVariants as bitcode_faults
use Rattle.record_table.specs.Records.{Spells}
use Rattle.entry_verify.specs.declared.types.fault.VerifyFault.{VerifyFault}
use Rattle.entry_verify.specs.declared.types.fault.VerifyFault.TheVariants as verdicts
use Rattle.path_verify.specs.Verified.{Verifies}
use Rattle.tool_output.specs.declared.ends.ended.Ended.{Ended}
use Rattle.tool_output.specs.declared.ends.ended.Ended.TheVariants.{BadByte, NoItemHere, LeftOutWord, TooMany, Duplicate, UnknownName, WrongNumber, ConstantRange, TooDeep, SelfContaining, TooLarge, FunctionTooLarge, Invalid, BitFault, ForeignProducer, BadVersion, UnknownRecord, BadRecord, Memory}
use Rattle.tool_cli.specs.declared.inputs.TheConstants.{LARGEST}

-- The bytes that bitcode begins with (LLVM Bitcode File Format, "LLVM IR Magic Number").
abbrev pub bitcode_magic : List ℕ
bitcode_magic = 0x42 ∷ 0x43 ∷ 0xC0 ∷ 0xDE ∷ []

-- whether the bytes begin as bitcode does
abbrev pub is_bitcode : List ℕ → Bool
is_bitcode text = starts_with (λ a b. a == b) text bitcode_magic

-- the refusal of a text, told with the name of its input
abbrev pub refusal_told : List ℕ → SyntaxFault → Ended
refusal_told name (faults.BadByte place) = BadByte name place
refusal_told name (faults.NoItemHere place) = NoItemHere name place
refusal_told name (faults.LeftOutWord place word) = LeftOutWord name place word
refusal_told name (faults.TooDeep place) = TooDeep name place
refusal_told name faults.Memory = Memory

-- the text of the input of this name has no items, and this is told
pub record HasNoItems (name text : List ℕ) (ended : Ended) : Type 0 where
  pub fault : SyntaxFault
  pub refused : IsRefused text fault
  pub told : ended ≡ refusal_told name fault

-- the break of the items of a text, told with the name of its input
abbrev pub break_told : List ℕ → ResolveFault → Ended
break_told name (breaks.TooMany kind count) = TooMany (Some name) kind count
break_told name (breaks.Duplicate place first) = Duplicate name place first
break_told name (breaks.UnknownName place spelled) = UnknownName name place spelled
break_told name (breaks.WrongNumber place next found) = WrongNumber name place next found
break_told name (breaks.ConstantRange place) = ConstantRange name place
break_told name (breaks.TooDeep place) = TooDeep name place
break_told name (breaks.SelfContaining place) = SelfContaining name place
break_told name (breaks.TooLarge place) = TooLarge name place
break_told name breaks.Memory = Memory

-- the items of the text of the input of this name are no module, and this is told
pub record HasNoModule (name text : List ℕ) (ended : Ended) : Type 0 where
  pub items : List ItemTree
  pub has_items : HasItems text items
  pub fault : ResolveFault
  pub breaks : first_break items ≡ Some fault
  pub told : ended ≡ break_told name fault

-- a block, in words: its name as canonical text spells it, or its number
abbrev pub block_words : LocalName → List ℕ
block_words (Named name) = 37 ∷ name_spelling name
block_words (Numbered number) = 37 ∷ decimal number

-- what is at fault, in words; names are spelled as in canonical text
abbrev pub entity_words : Entity → List ℕ
entity_words Entity.TheModule = codes "module"
entity_words (Entity.Global name) = spelled_global name
entity_words (Entity.BlockOf block function) = block_words block ++ (codes " of " ++ spelled_global function)
entity_words (Entity.InstructionOf number function) = codes "instruction " ++ (decimal number ++ (codes " of " ++ spelled_global function))

-- the refusal of a module, told with the name of its input
abbrev pub verdict_told : List ℕ → VerifyFault → Ended
verdict_told name (verdicts.FunctionTooLarge function size) = FunctionTooLarge name (spelled_global function) size
verdict_told name (verdicts.Invalid rule entity) = Invalid name rule (entity_words (entity_view entity))
verdict_told name verdicts.Memory = Memory

-- a module is refused so, as it is for no want of memory
abbrev pub IsVerdict : Module → VerifyFault → Type 0
IsVerdict m verdicts.Memory = ⊥
IsVerdict m fault = Verifies {T = Unit {0}} m (Err fault)

-- the module of the text of the input of this name is refused, and this is told
pub record HasInvalidModule (name text : List ℕ) (ended : Ended) : Type 0 where
  pub items : List ItemTree
  pub has_items : HasItems text items
  pub meant : Module
  pub resolves : Resolves items meant
  pub fault : VerifyFault
  pub refused : IsVerdict meant fault
  pub told : ended ≡ verdict_told name fault

-- the text of the input of this name is refused, and this is told
abbrev pub IsTextRefused : List ℕ → List ℕ → Ended → Type 0
IsTextRefused name text ended = HasNoItems name text ended ⊎ (HasNoModule name text ended ⊎ HasInvalidModule name text ended)

-- the refusal of bitcode, told with the name of its input
abbrev pub bitcode_told : List ℕ → BitcodeFault → Ended
bitcode_told name (bitcode_faults.Bit fault) = BitFault name fault
bitcode_told name bitcode_faults.ForeignProducer = ForeignProducer name
bitcode_told name (bitcode_faults.BadVersion version) = BadVersion name version
bitcode_told name (bitcode_faults.UnknownRecord block code) = UnknownRecord name block code
bitcode_told name (bitcode_faults.BadRecord block index rule) = BadRecord name block index rule
bitcode_told name bitcode_faults.Memory = Memory

-- bytes spell no module for this reason, which is no want of memory
abbrev pub IsBitcodeFault : List ℕ → BitcodeFault → Type 0
IsBitcodeFault bytes bitcode_faults.Memory = ⊥
IsBitcodeFault bytes fault = IsReadFault bytes fault

-- the bytes of the input of this name spell no module, and this is told
pub record SpellsNothing (name bytes : List ℕ) (ended : Ended) : Type 0 where
  pub fault : BitcodeFault
  pub refused : IsBitcodeFault bytes fault
  pub told : ended ≡ bitcode_told name fault

-- the module that the bytes of the input of this name spell is refused, and this is told
pub record SpellsInvalid (name bytes : List ℕ) (ended : Ended) : Type 0 where
  pub meant : Module
  pub spelled : Spells bytes meant
  pub fault : VerifyFault
  pub refused : IsVerdict meant fault
  pub told : ended ≡ verdict_told name fault

-- the input of this name is refused as bitcode, and this is told
abbrev pub IsBitcodeRefused : List ℕ → List ℕ → Ended → Type 0
IsBitcodeRefused name bytes ended = SpellsNothing name bytes ended ⊎ SpellsInvalid name bytes ended

-- bytes spell this module, of which no function is too large and which is valid
pub record IsBitcodeOf (bytes : List ℕ) (m : Module) : Type 0 where
  pub spelled : Spells bytes m
  pub sized : first_too_large m ≡ None
  pub valid : IsValid m

-- a module is accepted: no function is too large, and it is valid
pub record IsAcceptedModule (items : List ItemTree) (m : Module) : Type 0 where
  pub resolves : Resolves items m
  pub sized : first_too_large m ≡ None
  pub valid : IsValid m

-- these are the items of the text, and they resolve to this module, which is accepted
pub record IsTextOf (text : List ℕ) (items : List ItemTree) (m : Module) : Type 0 where
  pub has_items : HasItems text items
  pub accepted : IsAcceptedModule items m

-- these are the items of the text, and they resolve to a module that is accepted
abbrev pub HasModule : List ℕ → List ItemTree → Type 0
HasModule text items = HasItems text items × ((m : Module) × IsAcceptedModule items m)

-- an input of this name is refused, as bitcode where it begins as that does, and else as a text, and this is told
abbrev pub IsPartRefused : List ℕ → List ℕ → Ended → Type 0
IsPartRefused name bytes ended = MatchBool (is_bitcode bytes) (IsBitcodeRefused name bytes ended) (IsTextRefused name bytes ended)

-- an input is bitcode that spells a module, or a text of one
abbrev pub IsPartAccepted : List ℕ → Type 0
IsPartAccepted bytes = MatchBool (is_bitcode bytes) ((m : Module) × IsBitcodeOf bytes m) ((items : List ItemTree) × HasModule bytes items)

-- each input is
abbrev pub AreAccepted : List (List ℕ) → Type 0
AreAccepted [] = Unit {0}
AreAccepted (bytes ∷ texts) = IsPartAccepted bytes × AreAccepted texts

-- of the inputs of these names, the first that is refused is refused so
abbrev pub IsFirstRefusal : List (List ℕ) → List (List ℕ) → Ended → Type 0
IsFirstRefusal (name ∷ names) (bytes ∷ texts) ended = IsPartRefused name bytes ended ⊎ (IsPartAccepted bytes × IsFirstRefusal names texts ended)
IsFirstRefusal _ _ ended = ⊥

-- a text is no larger than an input may be
abbrev pub IsShort : List ℕ → Type 0
IsShort text = length text ≤ LARGEST

-- each of these is
abbrev pub AreShort : List (List ℕ) → Type 0
AreShort [] = Unit {0}
AreShort (text ∷ texts) = IsShort text × AreShort texts
