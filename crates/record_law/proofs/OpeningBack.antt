-- The blocks of the producer and of the string table are read back.
use Rattle.std.proofs.Common.{◌≡◌, ℕ, suc, List, [], ◌∷◌, ◌++◌, length, Option, None, Ok, refl, sym, ap, ◌∙◌, append-nil, inl, inr}
use Rattle.std.specs.List.{AllByRecursion, fold}
use Rattle.std.proofs.lemmas.Bool.{cases_Bool}
use Rattle.module_arena.specs.Module.{Bytes, Module}
use Rattle.record_table.specs.Walk.{Walk, going, next, told}
use Rattle.record_table.specs.Layout.{many, to_end, judged}
use Rattle.record_table.specs.Fields.{byte}
use Rattle.record_table.specs.StringTable.{has_text, with_text, once_each, joined, read_only}
use Rattle.record_table.specs.Faults.{◌>>=◌, no_more, a_record, table_id, module_id, unless_broken}
use Rattle.record_table.specs.Records.{ReadTable, table, table_ended, module_block, read}
use Rattle.record_table.specs.Spelling.{put_block, put_module, written_module, records_put, string_table, texts_of, texts_in}
use Rattle.record_table.specs.Listed.{AreBytes}
use Rattle.bit_tree.specs.Written as written

bytes_back : (bytes : Bytes) (rest : List ℕ) → AreBytes bytes → many byte.read (length bytes) (going (bytes ++ rest) None) ≡ (bytes, going rest None)
unfolding many next
bytes_back [] rest fit = refl
bytes_back (b ∷ bytes) rest fit = rw (fit.0, bytes_back bytes rest fit.1) refl

bytes_judged : (bytes : Bytes) → AreBytes bytes → judged (to_end byte) bytes ≡ (bytes, None)
bytes_judged bytes fit =
    ap (λ (p : Bytes × Walk). (p.0, told p.1)) (ap (λ ns. many byte.read (length bytes) (going ns None)) (sym (append-nil bytes)) ∙ bytes_back bytes [] fit)

pub table_back : (at : ℕ) (bytes : Bytes) → AreBytes bytes → table at (a_record 1 bytes no_more) ≡ Ok (record { at = suc at; bytes = bytes })
table_back at bytes fit = ap (λ (x : Bytes × Option ℕ). unless_broken table_id at x.1 (record { at = suc at; bytes = x.0 }) >>= λ (t : ReadTable). table_ended t no_more) (bytes_judged bytes fit)

-- what is read of a module that is written is what is read of its block, in its table
pub opening_back : (m : Module) → AreBytes (string_table m)
    → read (records_put (written_module m)) ≡ module_block (read_only (string_table m)) 2 (records_put (put_block module_id (put_module (texts_in m) m) written.no_more))
opening_back m fit = rw (table_back 1 (string_table m) fit) refl

-- ---- a table of bytes is made of bytes

append_bytes : (xs ys : Bytes) → AreBytes xs → AreBytes ys → AreBytes (xs ++ ys)
append_bytes [] ys h k = k
append_bytes (x ∷ xs) ys h k = (h.0, append_bytes xs ys h.1 k)

joined_bytes : (texts : List Bytes) → AllByRecursion AreBytes texts → AreBytes (joined texts)
joined_bytes [] h = tt
joined_bytes (t ∷ texts) h = append_bytes t (joined texts) h.0 (joined_bytes texts h.1)

append_all : (all more : List Bytes) → AllByRecursion AreBytes all → AllByRecursion AreBytes more → AllByRecursion AreBytes (all ++ more)
append_all [] more h k = k
append_all (t ∷ all) more h k = (h.0, append_all all more h.1 k)

with_text_bytes : (all : List Bytes) (text : Bytes) → AllByRecursion AreBytes all → AreBytes text → AllByRecursion AreBytes (with_text all text)
with_text_bytes all [] h k = h
with_text_bytes all (b ∷ bs) h k = elim (cases_Bool (has_text all (b ∷ bs))) [
  | inl there ↦ rw there h
  | inr new ↦ rw new (append_all all ((b ∷ bs) ∷ []) h (k, tt))
]

fold_bytes : (texts all : List Bytes) → AllByRecursion AreBytes all → AllByRecursion AreBytes texts → AllByRecursion AreBytes (fold with_text all texts)
fold_bytes [] all h k = h
fold_bytes (t ∷ texts) all h k = fold_bytes texts (with_text all t) (with_text_bytes all t h k.0) k.1

pub table_of_bytes : (m : Module) → AllByRecursion AreBytes (texts_of m) → AreBytes (string_table m)
table_of_bytes m h = joined_bytes (once_each (texts_of m)) (fold_bytes (texts_of m) [] tt h)
