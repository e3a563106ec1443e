-- Opcodes are printed.
use Rattle.std.proofs.Common.{◌≡◌, ℕ, ◌+◌, List, [], ◌∷◌, true, refl}
use Rattle.ir_base.specs.declared.place.Place.{Place}
use Rattle.ir_lexer.specs.Class.{byte_class}
use Rattle.ir_lexer.specs.Table.{IsToken}
use Rattle.ir_lexer.specs.declared.token.TokenKind.TheVariants as kind
use Rattle.ir_tables.specs.Opcode.{opcode_word, opcode_code}
use Rattle.ir_tables.specs.declared.opcode.Opcode.{Opcode}
use Rattle.ir_tables.specs.declared.opcode.Opcode.TheVariants as op
use Rattle.ir_terminals.specs.PhraseRows.Row.{among, one}
use Rattle.ir_terminals.specs.Role.{class, terminal}
use Rattle.ir_terminals.specs.Tokens.{word}
use Rattle.ir_terminals.specs.Values.{opcode_in, opcode_of, place_of_token}
use Rattle.ir_terminals.specs.Words.{word_terminal, words_by_role}
use Rattle.ir_terminals.specs.declared.terminal.Terminal.TheVariants as terminals
use Rattle.ir_phrases.specs.Constants.Placed.{token_with_place, placed_by}
use Rattle.canonical.specs.Constants.{opcode}
use Rattle.canonical.specs.Items.Unplaced.{nowhere}
use Rattle.canonical.proofs.OnLaw.Printed.{IsPrinted, no_place}
use Rattle.canonical.proofs.OnLaw.Rows.{printed_one}
use Rattle.canonical.proofs.OnLaw.Words.{word_token}

opcode_token : (o : Opcode) → IsToken kind.Word (opcode_word o)
unfolding byte_class
opcode_token op.Add = word_token (opcode_word op.Add) refl
opcode_token op.Sub = word_token (opcode_word op.Sub) refl
opcode_token op.Mul = word_token (opcode_word op.Mul) refl
opcode_token op.UDiv = word_token (opcode_word op.UDiv) refl
opcode_token op.SDiv = word_token (opcode_word op.SDiv) refl
opcode_token op.URem = word_token (opcode_word op.URem) refl
opcode_token op.SRem = word_token (opcode_word op.SRem) refl
opcode_token op.Shl = word_token (opcode_word op.Shl) refl
opcode_token op.LShr = word_token (opcode_word op.LShr) refl
opcode_token op.AShr = word_token (opcode_word op.AShr) refl
opcode_token op.And = word_token (opcode_word op.And) refl
opcode_token op.Or = word_token (opcode_word op.Or) refl
opcode_token op.Xor = word_token (opcode_word op.Xor) refl
opcode_token op.ICmp = word_token (opcode_word op.ICmp) refl
opcode_token op.Trunc = word_token (opcode_word op.Trunc) refl
opcode_token op.ZExt = word_token (opcode_word op.ZExt) refl
opcode_token op.SExt = word_token (opcode_word op.SExt) refl
opcode_token op.PtrToInt = word_token (opcode_word op.PtrToInt) refl
opcode_token op.IntToPtr = word_token (opcode_word op.IntToPtr) refl
opcode_token op.Select = word_token (opcode_word op.Select) refl
opcode_token op.Freeze = word_token (opcode_word op.Freeze) refl
opcode_token op.Phi = word_token (opcode_word op.Phi) refl
opcode_token op.Load = word_token (opcode_word op.Load) refl
opcode_token op.Store = word_token (opcode_word op.Store) refl
opcode_token op.Alloca = word_token (opcode_word op.Alloca) refl
opcode_token op.GetElementPtr = word_token (opcode_word op.GetElementPtr) refl
opcode_token op.Call = word_token (opcode_word op.Call) refl
opcode_token op.ExtractValue = word_token (opcode_word op.ExtractValue) refl
opcode_token op.InsertValue = word_token (opcode_word op.InsertValue) refl
opcode_token op.Ret = word_token (opcode_word op.Ret) refl
opcode_token op.Br = word_token (opcode_word op.Br) refl
opcode_token op.Switch = word_token (opcode_word op.Switch) refl
opcode_token op.Unreachable = word_token (opcode_word op.Unreachable) refl

opcode_terminal : (o : Opcode) → terminal (record { kind = kind.Word; spelling = opcode_word o }) ≡ terminals.Opcode o
unfolding terminal word_terminal words_by_role
opcode_terminal op.Add = refl
opcode_terminal op.Sub = refl
opcode_terminal op.Mul = refl
opcode_terminal op.UDiv = refl
opcode_terminal op.SDiv = refl
opcode_terminal op.URem = refl
opcode_terminal op.SRem = refl
opcode_terminal op.Shl = refl
opcode_terminal op.LShr = refl
opcode_terminal op.AShr = refl
opcode_terminal op.And = refl
opcode_terminal op.Or = refl
opcode_terminal op.Xor = refl
opcode_terminal op.ICmp = refl
opcode_terminal op.Trunc = refl
opcode_terminal op.ZExt = refl
opcode_terminal op.SExt = refl
opcode_terminal op.PtrToInt = refl
opcode_terminal op.IntToPtr = refl
opcode_terminal op.Select = refl
opcode_terminal op.Freeze = refl
opcode_terminal op.Phi = refl
opcode_terminal op.Load = refl
opcode_terminal op.Store = refl
opcode_terminal op.Alloca = refl
opcode_terminal op.GetElementPtr = refl
opcode_terminal op.Call = refl
opcode_terminal op.ExtractValue = refl
opcode_terminal op.InsertValue = refl
opcode_terminal op.Ret = refl
opcode_terminal op.Br = refl
opcode_terminal op.Switch = refl
opcode_terminal op.Unreachable = refl

-- an opcode among these, with its place
pub printed_placed_opcode : (classes : List ℕ) (o : Opcode) → among (100 + opcode_code o) classes ≡ true → IsPrinted {X = Opcode × Place} (token_with_place classes opcode_in) (λ v. (v.0, no_place v.1)) (o, nowhere) (opcode o)
printed_placed_opcode classes o c =
    printed_one classes (placed_by opcode_in) (λ v. (v.0, no_place v.1)) (o, nowhere) kind.Word (opcode_word o) (opcode_token o) (rw (opcode_terminal o) c)
    (λ place. ((o, place), rw (opcode_terminal o) refl, refl))

-- an opcode among these
pub printed_opcode : (classes : List ℕ) (o : Opcode) → among (100 + opcode_code o) classes ≡ true → IsPrinted (one class classes opcode_of) (λ o. o) o (opcode o)
printed_opcode classes o c =
    printed_one classes opcode_of (λ o. o) o kind.Word (opcode_word o) (opcode_token o) (rw (opcode_terminal o) c) (λ place. (o, rw (opcode_terminal o) refl, refl))

-- this opcode
pub printed_opcode_word : (o : Opcode) → among (100 + opcode_code o) ((100 + opcode_code o) ∷ []) ≡ true → IsPrinted (word (terminals.Opcode o)) no_place nowhere (opcode o)
printed_opcode_word o c =
    printed_one ((100 + opcode_code o) ∷ []) place_of_token no_place nowhere kind.Word (opcode_word o) (opcode_token o) (rw (opcode_terminal o) c) (λ place. (place, refl, refl))
