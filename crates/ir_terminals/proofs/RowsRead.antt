-- The rows of one token and of brackets are read.
use Rattle.std.proofs.Common.{◌≡◌, [], ◌∷◌, true, false, refl, inl, inr, ◌==◌}
use Rattle.std.proofs.lemmas.Bool.{cases_Bool}
use Rattle.ir_terminals.specs.PhraseRows.Reads.{Reads}
use Rattle.ir_terminals.specs.PhraseRows.Row.{Stops, On, among}
use Rattle.ir_terminals.proofs.OnPhraseRows.Machine.{reads_machine}
use Rattle.ir_terminals.proofs.OnPhraseRows.Plain.{reads_one}
use Rattle.ir_terminals.specs.Brackets.{begun_step, brace_step, braced_row, matched_row}
use Rattle.ir_terminals.specs.Role.{class, terminal}
use Rattle.ir_terminals.specs.Terminal.{code, linkage_class, flag_class, predicate_class}
use Rattle.ir_terminals.specs.Tokens.{word, integer_row, global_name_row, local_row, named_local_row, label_row, quoted_row, byte_string_row, linkage_row, flag_row, predicate_row}
use Rattle.ir_terminals.specs.Values.{place_of_token, integer_of, name_of_global, local_of, named_local_of, label_of, text_of, bytes_of, linkage_of, flag_of, predicate_of}
use Rattle.ir_terminals.specs.declared.limits.Limits.{Limits}
use Rattle.ir_terminals.specs.declared.terminal.Terminal.{Terminal}
use Rattle.ir_terminals.specs.declared.terminal.Terminal.TheVariants as terminals

pub reads_word : (wanted : Terminal) → Reads class (word wanted) (word wanted).shape
reads_word wanted = reads_one class (code wanted ∷ []) place_of_token

pub reads_integer : Reads class integer_row integer_row.shape
reads_integer = reads_one class (code terminals.Integer ∷ []) integer_of

pub reads_global_name : Reads class global_name_row global_name_row.shape
reads_global_name = reads_one class (code terminals.GlobalName ∷ []) name_of_global

pub reads_local : Reads class local_row local_row.shape
reads_local = reads_one class (code terminals.Local ∷ []) local_of

pub reads_named_local : (limits : Limits) → Reads class (named_local_row limits) (named_local_row limits).shape
reads_named_local limits = reads_one class (code terminals.Local ∷ []) (named_local_of limits.with_left_out)

pub reads_label : Reads class label_row label_row.shape
reads_label = reads_one class (code terminals.Label ∷ []) label_of

pub reads_quoted : Reads class quoted_row quoted_row.shape
reads_quoted = reads_one class (code terminals.Quoted ∷ []) text_of

pub reads_byte_string : Reads class byte_string_row byte_string_row.shape
reads_byte_string = reads_one class (code terminals.ByteString ∷ []) bytes_of

pub reads_linkage : Reads class linkage_row linkage_row.shape
reads_linkage = reads_one class (linkage_class ∷ []) linkage_of

pub reads_flag : Reads class flag_row flag_row.shape
reads_flag = reads_one class (flag_class ∷ []) flag_of

pub reads_predicate : Reads class predicate_row predicate_row.shape
reads_predicate = reads_one class (predicate_class ∷ []) predicate_of

another_first : (opening x : Terminal) → among (code x) (code opening ∷ []) ≡ false → begun_step opening [] x ≡ Stops
another_first opening x h = elim (cases_Bool (code x == code opening)) [
  | inl e ↦ absurd (let f : true ≡ false = rw e at h in cc)
  | inr e ↦ rw e refl
]

pub reads_matched : (opening : Terminal) → Reads class (matched_row opening) (matched_row opening).shape
reads_matched opening =
    reads_machine class (code opening ∷ []) (λ unclosed t. begun_step opening unclosed (terminal t.token)) [] (λ t h. another_first opening (terminal t.token) h)

no_brace : (x : Terminal) → among (code x) (code terminals.OpenBrace ∷ []) ≡ false → brace_step false x ≡ Stops
no_brace terminals.OpenBrace h = absurd cc
no_brace _ h = refl

pub reads_braced : Reads class braced_row braced_row.shape
reads_braced =
    reads_machine class (code terminals.OpenBrace ∷ []) (λ opened t. brace_step opened (terminal t.token)) false (λ t h. no_brace (terminal t.token) h)

-- between the braces
pub other_goes_on : (x : Terminal) → (x ≡ terminals.CloseBrace → ⊥) → (x ≡ terminals.OpenBrace → ⊥) → brace_step true x ≡ On true
other_goes_on terminals.CloseBrace c o = absurd (c refl)
other_goes_on terminals.OpenBrace c o = absurd (o refl)
other_goes_on _ c o = refl
