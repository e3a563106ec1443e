-- Flags are printed.
use Rattle.std.proofs.Common.{◌≡◌, ℕ, ◌==◌, List, [], ◌∷◌, map, Bool, true, false, Option, Some, None, refl, sym, ap, subst, ◌∙◌, inl, inr}
use Rattle.std.proofs.lemmas.Bool.{eqb-true, cases_Bool}
use Rattle.ir_lexer.specs.Ahead.{Located, tokens_in}
use Rattle.ir_lexer.specs.Class.{byte_class}
use Rattle.ir_lexer.specs.Pieces.{Separator, Space, tokens_of}
use Rattle.ir_lexer.specs.Table.{IsToken}
use Rattle.ir_lexer.specs.declared.token.TokenKind.TheVariants as kind
use Rattle.ir_tables.specs.Flag.{flag_word}
use Rattle.ir_tables.specs.declared.flag.Flag.{Flag}
use Rattle.ir_tables.specs.declared.flag.Flag.TheVariants as flag
use Rattle.ir_tables.specs.declared.opcode.Opcode.{Opcode}
use Rattle.ir_tables.specs.declared.opcode.Opcode.TheVariants as op
use Rattle.ir_terminals.specs.PhraseRows.Row.{among, Steps}
use Rattle.ir_terminals.specs.Role.{terminal}
use Rattle.ir_terminals.specs.Words.{word_terminal, words_by_role}
use Rattle.ir_terminals.specs.declared.terminal.Terminal.TheVariants as terminals
use Rattle.ir_tables.specs.MayHave.{may_have}
use Rattle.ir_phrases.specs.Constants.Flags.{with_flag, flag_step, flags_core, flags_row}
use Rattle.canonical.specs.Phrase.{word, each}
use Rattle.canonical.specs.Constants.{flags_phrase, address_flags_phrase}
use Rattle.canonical.proofs.OnLaw.Printed.{IsSpaced, IsPrinted}
use Rattle.canonical.specs.Law.Written.{IsFlagSet}
use Rattle.canonical.proofs.OnLaw.Joined.{spaced_none, spaced_token}
use Rattle.canonical.proofs.OnLaw.Lists.{after}
use Rattle.canonical.proofs.OnLaw.Words.{word_token}

AllOf : (ℕ → Type 0) → List ℕ → Type 0
AllOf P [] = Unit {0}
AllOf P (x ∷ xs) = P x × AllOf P xs

-- what holds of each holds of one among them
one_of_all : (P : ℕ → Type 0) (xs : List ℕ) → AllOf P xs → (k : ℕ) → among k xs ≡ true → P k
unfolding AllOf
one_of_all P [] all k h = absurd cc
one_of_all P (x ∷ xs) all k h =
    elim (cases_Bool (k == x)) [ inl e ↦ subst P (sym (eqb-true k x e)) all.0 | inr e ↦ one_of_all P xs all.1 k (rw e at h) ]

-- the sum of flags that are read one after the other
adds : Opcode → ℕ → List Flag → Option ℕ
adds opcode set [] = Some set
adds opcode set (f ∷ fs) = elim (with_flag opcode set (Some f)) [ Some more ↦ adds opcode more fs | None ↦ None ]

flag_token : (f : Flag) → IsToken kind.Word (flag_word f)
unfolding byte_class
flag_token flag.Nuw = word_token (flag_word flag.Nuw) refl
flag_token flag.Nsw = word_token (flag_word flag.Nsw) refl
flag_token flag.Exact = word_token (flag_word flag.Exact) refl
flag_token flag.Disjoint = word_token (flag_word flag.Disjoint) refl
flag_token flag.Nneg = word_token (flag_word flag.Nneg) refl
flag_token flag.Samesign = word_token (flag_word flag.Samesign) refl
flag_token flag.Inbounds = word_token (flag_word flag.Inbounds) refl
flag_token flag.Nusw = word_token (flag_word flag.Nusw) refl
flag_token flag.Volatile = word_token (flag_word flag.Volatile) refl

flag_terminal : (f : Flag) → terminal (record { kind = kind.Word; spelling = flag_word f }) ≡ terminals.Flag f
unfolding terminal word_terminal words_by_role
flag_terminal flag.Nuw = refl
flag_terminal flag.Nsw = refl
flag_terminal flag.Exact = refl
flag_terminal flag.Disjoint = refl
flag_terminal flag.Nneg = refl
flag_terminal flag.Samesign = refl
flag_terminal flag.Inbounds = refl
flag_terminal flag.Nusw = refl
flag_terminal flag.Volatile = refl

flag_spaced : (fs : List Flag) → IsSpaced (each Space (map (λ f. word (flag_word f)) fs))
flag_spaced [] = spaced_none
flag_spaced (f ∷ fs) = (after Space tt).spaced (spaced_token kind.Word (flag_word f) (flag_token f)) (flag_spaced fs)

flag_steps : (opcode : Opcode) (fs : List Flag) (set last : ℕ) → adds opcode set fs ≡ Some last → (behind : Separator) (ts : List Located) → tokens_in ts ≡ tokens_of (each Space (map (λ f. word (flag_word f)) fs) behind) → (ms : List ℕ) × Steps (λ m. (flag_step opcode m).whole) set ts ms last
unfolding adds
flag_steps opcode [] set last a b [] e = ([], (refl, cc))
flag_steps opcode [] set last a b (t ∷ ts) e = absurd cc
flag_steps opcode (f ∷ fs) set last a b [] e = absurd cc
flag_steps opcode (f ∷ fs) set last a b (t ∷ ts) e =
    let first : t.token ≡ record { kind = kind.Word; spelling = flag_word f } = cc in
    let rest : tokens_in ts ≡ tokens_of (each Space (map (λ f. word (flag_word f)) fs) b) = cc in
    by (with_flag opcode set (Some f)) refl a (λ more a. flag_steps opcode fs more last a b ts rest)
    (ap terminal first ∙ flag_terminal f)
  where
    by : (m : Option ℕ) → with_flag opcode set (Some f) ≡ m → elim m [ Some more ↦ adds opcode more fs | None ↦ None ] ≡ Some last → ((more : ℕ) → adds opcode more fs ≡ Some last → (ms : List ℕ) × Steps (λ m. (flag_step opcode m).whole) more ts ms last) → terminal t.token ≡ terminals.Flag f → (ms : List ℕ) × Steps (λ m. (flag_step opcode m).whole) set (t ∷ ts) ms last
    by None w a k is = absurd cc
    by (Some more) w a k is = let s = k more a in (more ∷ s.0, (t ∷ [], ts, refl, (t, refl, rw is refl, rw is w), s.1))

printed_list : (opcode : Opcode) (fs : List Flag) (set : ℕ) → adds opcode 0 fs ≡ Some set → IsPrinted (flags_row opcode) (λ n. n) set (each Space (map (λ f. word (flag_word f)) fs))
unfolding flags_core
printed_list opcode fs set a = record { spaced = flag_spaced fs; whole = λ b ts e. let s = flag_steps opcode fs 0 set a b ts e in (set, (s.0, s.1), refl) }

abbrev pub has_plain_flags : Opcode → Bool
has_plain_flags op.Add = true
has_plain_flags op.Sub = true
has_plain_flags op.Mul = true
has_plain_flags op.UDiv = true
has_plain_flags op.SDiv = true
has_plain_flags op.URem = true
has_plain_flags op.SRem = true
has_plain_flags op.Shl = true
has_plain_flags op.LShr = true
has_plain_flags op.AShr = true
has_plain_flags op.And = true
has_plain_flags op.Or = true
has_plain_flags op.Xor = true
has_plain_flags op.ICmp = true
has_plain_flags op.Trunc = true
has_plain_flags op.ZExt = true
has_plain_flags op.SExt = true
has_plain_flags op.PtrToInt = true
has_plain_flags op.IntToPtr = true
has_plain_flags op.Load = true
has_plain_flags op.Store = true
has_plain_flags _ = false

abbrev ArePrintedFlags : Opcode → ℕ → Type 0
ArePrintedFlags opcode set = IsPrinted (flags_row opcode) (λ n. n) set (flags_phrase set)

-- flags of the instructions but getelementptr
pub printed_flags : (opcode : Opcode) (set : ℕ) → has_plain_flags opcode ≡ true → IsFlagSet opcode set → ArePrintedFlags opcode set
unfolding may_have AllOf adds
printed_flags op.Add set p h = one_of_all (ArePrintedFlags op.Add) (0 ∷ 2 ∷ 1 ∷ 3 ∷ []) (printed_list op.Add [] 0 refl, (printed_list op.Add (flag.Nsw ∷ []) 2 refl, (printed_list op.Add (flag.Nuw ∷ []) 1 refl, (printed_list op.Add (flag.Nuw ∷ flag.Nsw ∷ []) 3 refl, tt)))) set h
printed_flags op.Sub set p h = one_of_all (ArePrintedFlags op.Sub) (0 ∷ 2 ∷ 1 ∷ 3 ∷ []) (printed_list op.Sub [] 0 refl, (printed_list op.Sub (flag.Nsw ∷ []) 2 refl, (printed_list op.Sub (flag.Nuw ∷ []) 1 refl, (printed_list op.Sub (flag.Nuw ∷ flag.Nsw ∷ []) 3 refl, tt)))) set h
printed_flags op.Mul set p h = one_of_all (ArePrintedFlags op.Mul) (0 ∷ 2 ∷ 1 ∷ 3 ∷ []) (printed_list op.Mul [] 0 refl, (printed_list op.Mul (flag.Nsw ∷ []) 2 refl, (printed_list op.Mul (flag.Nuw ∷ []) 1 refl, (printed_list op.Mul (flag.Nuw ∷ flag.Nsw ∷ []) 3 refl, tt)))) set h
printed_flags op.UDiv set p h = one_of_all (ArePrintedFlags op.UDiv) (0 ∷ 4 ∷ []) (printed_list op.UDiv [] 0 refl, (printed_list op.UDiv (flag.Exact ∷ []) 4 refl, tt)) set h
printed_flags op.SDiv set p h = one_of_all (ArePrintedFlags op.SDiv) (0 ∷ 4 ∷ []) (printed_list op.SDiv [] 0 refl, (printed_list op.SDiv (flag.Exact ∷ []) 4 refl, tt)) set h
printed_flags op.URem set p h = one_of_all (ArePrintedFlags op.URem) (0 ∷ []) (printed_list op.URem [] 0 refl, tt) set h
printed_flags op.SRem set p h = one_of_all (ArePrintedFlags op.SRem) (0 ∷ []) (printed_list op.SRem [] 0 refl, tt) set h
printed_flags op.Shl set p h = one_of_all (ArePrintedFlags op.Shl) (0 ∷ 2 ∷ 1 ∷ 3 ∷ []) (printed_list op.Shl [] 0 refl, (printed_list op.Shl (flag.Nsw ∷ []) 2 refl, (printed_list op.Shl (flag.Nuw ∷ []) 1 refl, (printed_list op.Shl (flag.Nuw ∷ flag.Nsw ∷ []) 3 refl, tt)))) set h
printed_flags op.LShr set p h = one_of_all (ArePrintedFlags op.LShr) (0 ∷ 4 ∷ []) (printed_list op.LShr [] 0 refl, (printed_list op.LShr (flag.Exact ∷ []) 4 refl, tt)) set h
printed_flags op.AShr set p h = one_of_all (ArePrintedFlags op.AShr) (0 ∷ 4 ∷ []) (printed_list op.AShr [] 0 refl, (printed_list op.AShr (flag.Exact ∷ []) 4 refl, tt)) set h
printed_flags op.And set p h = one_of_all (ArePrintedFlags op.And) (0 ∷ []) (printed_list op.And [] 0 refl, tt) set h
printed_flags op.Or set p h = one_of_all (ArePrintedFlags op.Or) (0 ∷ 8 ∷ []) (printed_list op.Or [] 0 refl, (printed_list op.Or (flag.Disjoint ∷ []) 8 refl, tt)) set h
printed_flags op.Xor set p h = one_of_all (ArePrintedFlags op.Xor) (0 ∷ []) (printed_list op.Xor [] 0 refl, tt) set h
printed_flags op.ICmp set p h = one_of_all (ArePrintedFlags op.ICmp) (0 ∷ 32 ∷ []) (printed_list op.ICmp [] 0 refl, (printed_list op.ICmp (flag.Samesign ∷ []) 32 refl, tt)) set h
printed_flags op.Trunc set p h = one_of_all (ArePrintedFlags op.Trunc) (0 ∷ 2 ∷ 1 ∷ 3 ∷ []) (printed_list op.Trunc [] 0 refl, (printed_list op.Trunc (flag.Nsw ∷ []) 2 refl, (printed_list op.Trunc (flag.Nuw ∷ []) 1 refl, (printed_list op.Trunc (flag.Nuw ∷ flag.Nsw ∷ []) 3 refl, tt)))) set h
printed_flags op.ZExt set p h = one_of_all (ArePrintedFlags op.ZExt) (0 ∷ 16 ∷ []) (printed_list op.ZExt [] 0 refl, (printed_list op.ZExt (flag.Nneg ∷ []) 16 refl, tt)) set h
printed_flags op.SExt set p h = one_of_all (ArePrintedFlags op.SExt) (0 ∷ []) (printed_list op.SExt [] 0 refl, tt) set h
printed_flags op.PtrToInt set p h = one_of_all (ArePrintedFlags op.PtrToInt) (0 ∷ []) (printed_list op.PtrToInt [] 0 refl, tt) set h
printed_flags op.IntToPtr set p h = one_of_all (ArePrintedFlags op.IntToPtr) (0 ∷ []) (printed_list op.IntToPtr [] 0 refl, tt) set h
printed_flags op.Load set p h = one_of_all (ArePrintedFlags op.Load) (0 ∷ 256 ∷ []) (printed_list op.Load [] 0 refl, (printed_list op.Load (flag.Volatile ∷ []) 256 refl, tt)) set h
printed_flags op.Store set p h = one_of_all (ArePrintedFlags op.Store) (0 ∷ 256 ∷ []) (printed_list op.Store [] 0 refl, (printed_list op.Store (flag.Volatile ∷ []) 256 refl, tt)) set h
printed_flags _ set p h = absurd cc

abbrev ArePrintedAddressFlags : ℕ → Type 0
ArePrintedAddressFlags set = IsPrinted (flags_row op.GetElementPtr) (λ n. n) set (address_flags_phrase set)

pub printed_address_flags : (set : ℕ) → IsFlagSet op.GetElementPtr set → ArePrintedAddressFlags set
unfolding may_have AllOf adds
printed_address_flags set h = one_of_all ArePrintedAddressFlags (0 ∷ 128 ∷ 64 ∷ 192 ∷ 1 ∷ 129 ∷ 65 ∷ 193 ∷ []) (printed_list op.GetElementPtr [] 0 refl, (printed_list op.GetElementPtr (flag.Nusw ∷ []) 128 refl, (printed_list op.GetElementPtr (flag.Inbounds ∷ []) 64 refl, (printed_list op.GetElementPtr (flag.Inbounds ∷ flag.Nusw ∷ []) 192 refl, (printed_list op.GetElementPtr (flag.Nuw ∷ []) 1 refl, (printed_list op.GetElementPtr (flag.Nusw ∷ flag.Nuw ∷ []) 129 refl, (printed_list op.GetElementPtr (flag.Inbounds ∷ flag.Nuw ∷ []) 65 refl, (printed_list op.GetElementPtr (flag.Inbounds ∷ flag.Nusw ∷ flag.Nuw ∷ []) 193 refl, tt)))))))) set h
