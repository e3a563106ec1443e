-- What a token is where it is of none of these classes.
use Rattle.std.proofs.Common.{◌≡◌, ◌+◌, ℕ, true, refl, arith}
use Rattle.std.specs.Prelude.{nat_le}
use Rattle.std.proofs.lemmas.Bool.{false≢true, le-leb}
use Rattle.ir_tables.specs.declared.flag.Flag.{Flag}
use Rattle.ir_tables.specs.declared.linkage.Linkage.{Linkage}
use Rattle.ir_tables.specs.Opcode.{opcode_code}
use Rattle.ir_tables.specs.declared.opcode.Opcode.{Opcode}
use Rattle.ir_tables.specs.declared.predicate.Predicate.{Predicate}
use Rattle.ir_terminals.specs.Terminal.{code, first_word_class, linkage_class}
use Rattle.ir_terminals.specs.declared.terminal.Terminal.{Terminal}
use Rattle.ir_terminals.specs.declared.terminal.Terminal.TheVariants as terminals

-- no token of its own kind and no mark: a word
pub word_else : (t : Terminal) →
    (t ≡ terminals.Other → ⊥) → (t ≡ terminals.Label → ⊥) → (t ≡ terminals.Integer → ⊥) → (t ≡ terminals.GlobalName → ⊥) →
    (t ≡ terminals.Local → ⊥) → (t ≡ terminals.Quoted → ⊥) → (t ≡ terminals.ByteString → ⊥) → (t ≡ terminals.MetaName → ⊥) →
    (t ≡ terminals.MetaNumber → ⊥) → (t ≡ terminals.MetaMark → ⊥) → (t ≡ terminals.Group → ⊥) → (t ≡ terminals.Equals → ⊥) →
    (t ≡ terminals.Comma → ⊥) → (t ≡ terminals.OpenParenthesis → ⊥) → (t ≡ terminals.CloseParenthesis → ⊥) → (t ≡ terminals.OpenBracket → ⊥) →
    (t ≡ terminals.CloseBracket → ⊥) → (t ≡ terminals.OpenBrace → ⊥) → (t ≡ terminals.CloseBrace → ⊥) → (t ≡ terminals.Less → ⊥) →
    (t ≡ terminals.Greater → ⊥) → (t ≡ terminals.Dots → ⊥) →
    nat_le first_word_class (code t) ≡ true
word_else terminals.Other other _ _ _ _ _ _ _ _ _ _ _ _ _ _ _ _ _ _ _ _ _ = absurd (other refl)
word_else terminals.Label _ other _ _ _ _ _ _ _ _ _ _ _ _ _ _ _ _ _ _ _ _ = absurd (other refl)
word_else terminals.Integer _ _ other _ _ _ _ _ _ _ _ _ _ _ _ _ _ _ _ _ _ _ = absurd (other refl)
word_else terminals.GlobalName _ _ _ other _ _ _ _ _ _ _ _ _ _ _ _ _ _ _ _ _ _ = absurd (other refl)
word_else terminals.Local _ _ _ _ other _ _ _ _ _ _ _ _ _ _ _ _ _ _ _ _ _ = absurd (other refl)
word_else terminals.Quoted _ _ _ _ _ other _ _ _ _ _ _ _ _ _ _ _ _ _ _ _ _ = absurd (other refl)
word_else terminals.ByteString _ _ _ _ _ _ other _ _ _ _ _ _ _ _ _ _ _ _ _ _ _ = absurd (other refl)
word_else terminals.MetaName _ _ _ _ _ _ _ other _ _ _ _ _ _ _ _ _ _ _ _ _ _ = absurd (other refl)
word_else terminals.MetaNumber _ _ _ _ _ _ _ _ other _ _ _ _ _ _ _ _ _ _ _ _ _ = absurd (other refl)
word_else terminals.MetaMark _ _ _ _ _ _ _ _ _ other _ _ _ _ _ _ _ _ _ _ _ _ = absurd (other refl)
word_else terminals.Group _ _ _ _ _ _ _ _ _ _ other _ _ _ _ _ _ _ _ _ _ _ = absurd (other refl)
word_else terminals.Equals _ _ _ _ _ _ _ _ _ _ _ other _ _ _ _ _ _ _ _ _ _ = absurd (other refl)
word_else terminals.Comma _ _ _ _ _ _ _ _ _ _ _ _ other _ _ _ _ _ _ _ _ _ = absurd (other refl)
word_else terminals.OpenParenthesis _ _ _ _ _ _ _ _ _ _ _ _ _ other _ _ _ _ _ _ _ _ = absurd (other refl)
word_else terminals.CloseParenthesis _ _ _ _ _ _ _ _ _ _ _ _ _ _ other _ _ _ _ _ _ _ = absurd (other refl)
word_else terminals.OpenBracket _ _ _ _ _ _ _ _ _ _ _ _ _ _ _ other _ _ _ _ _ _ = absurd (other refl)
word_else terminals.CloseBracket _ _ _ _ _ _ _ _ _ _ _ _ _ _ _ _ other _ _ _ _ _ = absurd (other refl)
word_else terminals.OpenBrace _ _ _ _ _ _ _ _ _ _ _ _ _ _ _ _ _ other _ _ _ _ = absurd (other refl)
word_else terminals.CloseBrace _ _ _ _ _ _ _ _ _ _ _ _ _ _ _ _ _ _ other _ _ _ = absurd (other refl)
word_else terminals.Less _ _ _ _ _ _ _ _ _ _ _ _ _ _ _ _ _ _ _ other _ _ = absurd (other refl)
word_else terminals.Greater _ _ _ _ _ _ _ _ _ _ _ _ _ _ _ _ _ _ _ _ other _ = absurd (other refl)
word_else terminals.Dots _ _ _ _ _ _ _ _ _ _ _ _ _ _ _ _ _ _ _ _ _ other = absurd (other refl)
word_else (terminals.Opcode opcode) _ _ _ _ _ _ _ _ _ _ _ _ _ _ _ _ _ _ _ _ _ _ = le-leb 22 (100 + opcode_code opcode) (omega arith)
word_else _ _ _ _ _ _ _ _ _ _ _ _ _ _ _ _ _ _ _ _ _ _ _ = refl

-- a word that neither items nor types have: one of a list
pub listed_else : (t : Terminal) → nat_le first_word_class (code t) ≡ true →
    (t ≡ terminals.SourceFilename → ⊥) → (t ≡ terminals.Target → ⊥) → (t ≡ terminals.DataLayout → ⊥) → (t ≡ terminals.Triple → ⊥) →
    (t ≡ terminals.«Type» → ⊥) → (t ≡ terminals.Opaque → ⊥) → (t ≡ terminals.Global → ⊥) → (t ≡ terminals.Constant → ⊥) →
    (t ≡ terminals.Declare → ⊥) → (t ≡ terminals.Define → ⊥) → (t ≡ terminals.Attributes → ⊥) → (t ≡ terminals.Distinct → ⊥) →
    (t ≡ terminals.Section → ⊥) → (t ≡ terminals.Align → ⊥) → (t ≡ terminals.X → ⊥) → (t ≡ terminals.To → ⊥) →
    (t ≡ terminals.LabelWord → ⊥) → (t ≡ terminals.Void → ⊥) → (t ≡ terminals.Ptr → ⊥) → ((width : ℕ) → t ≡ terminals.IntegerType width → ⊥) →
    nat_le linkage_class (code t) ≡ true
listed_else terminals.SourceFilename _ other _ _ _ _ _ _ _ _ _ _ _ _ _ _ _ _ _ _ _ = absurd (other refl)
listed_else terminals.Target _ _ other _ _ _ _ _ _ _ _ _ _ _ _ _ _ _ _ _ _ = absurd (other refl)
listed_else terminals.DataLayout _ _ _ other _ _ _ _ _ _ _ _ _ _ _ _ _ _ _ _ _ = absurd (other refl)
listed_else terminals.Triple _ _ _ _ other _ _ _ _ _ _ _ _ _ _ _ _ _ _ _ _ = absurd (other refl)
listed_else terminals.«Type» _ _ _ _ _ other _ _ _ _ _ _ _ _ _ _ _ _ _ _ _ = absurd (other refl)
listed_else terminals.Opaque _ _ _ _ _ _ other _ _ _ _ _ _ _ _ _ _ _ _ _ _ = absurd (other refl)
listed_else terminals.Global _ _ _ _ _ _ _ other _ _ _ _ _ _ _ _ _ _ _ _ _ = absurd (other refl)
listed_else terminals.Constant _ _ _ _ _ _ _ _ other _ _ _ _ _ _ _ _ _ _ _ _ = absurd (other refl)
listed_else terminals.Declare _ _ _ _ _ _ _ _ _ other _ _ _ _ _ _ _ _ _ _ _ = absurd (other refl)
listed_else terminals.Define _ _ _ _ _ _ _ _ _ _ other _ _ _ _ _ _ _ _ _ _ = absurd (other refl)
listed_else terminals.Attributes _ _ _ _ _ _ _ _ _ _ _ other _ _ _ _ _ _ _ _ _ = absurd (other refl)
listed_else terminals.Distinct _ _ _ _ _ _ _ _ _ _ _ _ other _ _ _ _ _ _ _ _ = absurd (other refl)
listed_else terminals.Section _ _ _ _ _ _ _ _ _ _ _ _ _ other _ _ _ _ _ _ _ = absurd (other refl)
listed_else terminals.Align _ _ _ _ _ _ _ _ _ _ _ _ _ _ other _ _ _ _ _ _ = absurd (other refl)
listed_else terminals.X _ _ _ _ _ _ _ _ _ _ _ _ _ _ _ other _ _ _ _ _ = absurd (other refl)
listed_else terminals.To _ _ _ _ _ _ _ _ _ _ _ _ _ _ _ _ other _ _ _ _ = absurd (other refl)
listed_else terminals.LabelWord _ _ _ _ _ _ _ _ _ _ _ _ _ _ _ _ _ other _ _ _ = absurd (other refl)
listed_else terminals.Void _ _ _ _ _ _ _ _ _ _ _ _ _ _ _ _ _ _ other _ _ = absurd (other refl)
listed_else terminals.Ptr _ _ _ _ _ _ _ _ _ _ _ _ _ _ _ _ _ _ _ other _ = absurd (other refl)
listed_else (terminals.IntegerType width) _ _ _ _ _ _ _ _ _ _ _ _ _ _ _ _ _ _ _ _ other = absurd (other width refl)
listed_else (terminals.Opcode opcode) _ _ _ _ _ _ _ _ _ _ _ _ _ _ _ _ _ _ _ _ _ = le-leb 42 (100 + opcode_code opcode) (omega arith)
listed_else _ is _ _ _ _ _ _ _ _ _ _ _ _ _ _ _ _ _ _ _ _ = is

-- no other word stands in a list
pub nothing_else : (t : Terminal) → nat_le linkage_class (code t) ≡ true →
    ((linkage : Linkage) → t ≡ terminals.Linkage linkage → ⊥) → (t ≡ terminals.GlobalDropped → ⊥) → (t ≡ terminals.UnnamedAddress → ⊥) → (t ≡ terminals.CallingConvention → ⊥) →
    (t ≡ terminals.ParameterDropped → ⊥) → (t ≡ terminals.AttributeDropped → ⊥) → (t ≡ terminals.FunctionDropped → ⊥) → (t ≡ terminals.ParameterDroppedList → ⊥) →
    (t ≡ terminals.FunctionDroppedList → ⊥) → (t ≡ terminals.UnwindTable → ⊥) → (t ≡ terminals.TailMark → ⊥) → (t ≡ terminals.True → ⊥) →
    (t ≡ terminals.False → ⊥) → (t ≡ terminals.Null → ⊥) → (t ≡ terminals.Undef → ⊥) → (t ≡ terminals.Poison → ⊥) →
    (t ≡ terminals.ZeroInitializer → ⊥) → ((flag : Flag) → t ≡ terminals.Flag flag → ⊥) → ((predicate : Predicate) → t ≡ terminals.Predicate predicate → ⊥) → (t ≡ terminals.Alias → ⊥) →
    ((opcode : Opcode) → t ≡ terminals.Opcode opcode → ⊥) →
    ⊥
nothing_else (terminals.Linkage linkage) _ other _ _ _ _ _ _ _ _ _ _ _ _ _ _ _ _ _ _ _ _ = other linkage refl
nothing_else terminals.GlobalDropped _ _ other _ _ _ _ _ _ _ _ _ _ _ _ _ _ _ _ _ _ _ = other refl
nothing_else terminals.UnnamedAddress _ _ _ other _ _ _ _ _ _ _ _ _ _ _ _ _ _ _ _ _ _ = other refl
nothing_else terminals.CallingConvention _ _ _ _ other _ _ _ _ _ _ _ _ _ _ _ _ _ _ _ _ _ = other refl
nothing_else terminals.ParameterDropped _ _ _ _ _ other _ _ _ _ _ _ _ _ _ _ _ _ _ _ _ _ = other refl
nothing_else terminals.AttributeDropped _ _ _ _ _ _ other _ _ _ _ _ _ _ _ _ _ _ _ _ _ _ = other refl
nothing_else terminals.FunctionDropped _ _ _ _ _ _ _ other _ _ _ _ _ _ _ _ _ _ _ _ _ _ = other refl
nothing_else terminals.ParameterDroppedList _ _ _ _ _ _ _ _ other _ _ _ _ _ _ _ _ _ _ _ _ _ = other refl
nothing_else terminals.FunctionDroppedList _ _ _ _ _ _ _ _ _ other _ _ _ _ _ _ _ _ _ _ _ _ = other refl
nothing_else terminals.UnwindTable _ _ _ _ _ _ _ _ _ _ other _ _ _ _ _ _ _ _ _ _ _ = other refl
nothing_else terminals.TailMark _ _ _ _ _ _ _ _ _ _ _ other _ _ _ _ _ _ _ _ _ _ = other refl
nothing_else terminals.True _ _ _ _ _ _ _ _ _ _ _ _ other _ _ _ _ _ _ _ _ _ = other refl
nothing_else terminals.False _ _ _ _ _ _ _ _ _ _ _ _ _ other _ _ _ _ _ _ _ _ = other refl
nothing_else terminals.Null _ _ _ _ _ _ _ _ _ _ _ _ _ _ other _ _ _ _ _ _ _ = other refl
nothing_else terminals.Undef _ _ _ _ _ _ _ _ _ _ _ _ _ _ _ other _ _ _ _ _ _ = other refl
nothing_else terminals.Poison _ _ _ _ _ _ _ _ _ _ _ _ _ _ _ _ other _ _ _ _ _ = other refl
nothing_else terminals.ZeroInitializer _ _ _ _ _ _ _ _ _ _ _ _ _ _ _ _ _ other _ _ _ _ = other refl
nothing_else (terminals.Flag flag) _ _ _ _ _ _ _ _ _ _ _ _ _ _ _ _ _ _ other _ _ _ = other flag refl
nothing_else (terminals.Predicate predicate) _ _ _ _ _ _ _ _ _ _ _ _ _ _ _ _ _ _ _ other _ _ = other predicate refl
nothing_else terminals.Alias _ _ _ _ _ _ _ _ _ _ _ _ _ _ _ _ _ _ _ _ other _ = other refl
nothing_else (terminals.Opcode opcode) _ _ _ _ _ _ _ _ _ _ _ _ _ _ _ _ _ _ _ _ _ other = other opcode refl
nothing_else _ is _ _ _ _ _ _ _ _ _ _ _ _ _ _ _ _ _ _ _ _ _ = absurd (false≢true is)
