-- The records of the tree that is written are those that were put.
use Rattle.std.proofs.Common.{◌≡◌, ℕ, ◌+◌, false, List, [], ◌∷◌, Option, Some, None, refl, ap, ◌∙◌}
use Rattle.std.specs.Prelude.{⊤, filter_map}
use Rattle.bit_stream.specs.declared.abbreviation.ValueSpelling.TheVariants.{Field, Chunks}
use Rattle.bit_stream.specs.declared.abbreviation.Tail.TheVariants.{Elements}
use Rattle.bit_stream.specs.Abbreviation.{AdmittedAbbreviation}
use Rattle.bit_stream.specs.Scope.{abbreviation_of}
use Rattle.bit_stream.specs.Entry.{is_blockinfo}
use Rattle.bit_stream.specs.Spelling.{abbreviation_for, rest_of}
use Rattle.bit_stream.specs.Writer.{Writer, begun, enter, end_block, define, put_record, abbreviated, in_force}
use Rattle.bit_tree.specs.Stream as stream
use Rattle.bit_tree.specs.Written.{Written, no_more, a_block, a_definition, a_record, a_short_record, written, tree_of, with_definition, with_values}
use Rattle.module_arena.specs.Module.{Bytes, Module}
use Rattle.record_table.specs.Faults.{records, no_more as nothing_more, a_block as a_block_of, a_record as one_record, module_id}
use Rattle.record_table.specs.Spelling.{Line, put, put_block, put_bodies, of_bytes, string_table, texts_in, head_lines, put_module, written_module, records_put, type_lines, global_lines, body_of, numbering}
use Rattle.record_table.specs.Fields.{Texts}
use Rattle.record_table.specs.Records.{producer}
use Rattle.record_table.specs.Mentions.{mentioned}

-- no record is written by an abbreviation
IsLong : Written → Type 0
IsLong no_more = ⊤
IsLong (a_block id width inside behind) = IsLong inside × IsLong behind
IsLong (a_definition ops behind) = IsLong behind
IsLong (a_record code ns behind) = IsLong behind
IsLong (a_short_record id code ns behind) = ⊥

past_definition : (id : ℕ) (t : Option AdmittedAbbreviation) (behind : stream.StreamTree) → records (with_definition id t behind) ≡ records behind
past_definition id None behind = refl
past_definition id (Some t) behind = refl

long_put : (w : Writer) (all : Written) → IsLong all → records (tree_of w all) ≡ records_put all
unfolding IsLong tree_of
long_put w no_more long = refl
long_put w (a_block id width inside behind) long = rw (long_put (enter w id width) inside long.0, long_put (end_block (written (enter w id width) inside)) behind long.1) refl
long_put w (a_definition ops behind) long = past_definition (in_force w.scope + 4) (abbreviation_for ops) (tree_of (define w ops) behind) ∙ long_put (define w ops) behind long
long_put w (a_record code ns behind) long = rw (long_put (put_record w code ns) behind long) refl
long_put w (a_short_record id code ns behind) long = elim long [ ]

-- the abbreviation of texts is in force
record IsReady (w : Writer) : Type 0 where
  plain : is_blockinfo w.scope ≡ false
  there : abbreviation_of w.scope 4 ≡ Some (record { code = Chunks 6; operands = []; tail = Elements (Field 8) })

still_ready : (w : Writer) (code : ℕ) (text : Bytes) → IsReady w → IsReady (abbreviated w 4 code text)
still_ready w code text ready = record { plain = rw (ready.plain, ready.plain) refl; there = rw ready.plain ready.there }

bytes_put : (id : ℕ) (t : Option AdmittedAbbreviation) (code : ℕ) (ns : List ℕ) (behind : stream.StreamTree) → t ≡ Some (record { code = Chunks 6; operands = []; tail = Elements (Field 8) })
    → records (with_values id t code ns behind) ≡ one_record code ns (records behind)
bytes_put id t code ns behind there = rw there refl

short_put : (w : Writer) (code : ℕ) (ns : List ℕ) (behind : Written) → IsReady w → ((v : Writer) → IsReady v → records (tree_of v behind) ≡ records_put behind)
    → records (tree_of w (a_short_record 4 code ns behind)) ≡ records_put (a_short_record 4 code ns behind)
unfolding tree_of
short_put w code ns behind ready then =
    bytes_put 4 (abbreviation_of w.scope 4) code ns (tree_of (abbreviated w 4 code ns) behind) ready.there ∙ ap (one_record code ns) (then (abbreviated w 4 code ns) (still_ready w code ns ready))

lines_long : (lines : List Line) (behind : Written) → IsLong behind → IsLong (put lines behind)
unfolding IsLong
lines_long [] behind long = long
lines_long (line ∷ lines) behind long = lines_long lines behind long

bodies_long : (bodies : List (List Line)) → IsLong (put_bodies bodies no_more)
unfolding IsLong
bodies_long [] = tt
bodies_long (lines ∷ bodies) = (lines_long lines no_more tt, bodies_long bodies)

module_long : (texts : Texts) (m : Module) → IsLong (put_module texts m)
unfolding IsLong
module_long texts m =
    lines_long (head_lines texts m) _
    (lines_long (type_lines texts (mentioned m) m) no_more tt, lines_long (global_lines texts m) _ (bodies_long (filter_map (body_of texts (numbering m)) m.functions)))

-- the writer behind the producer's block, in the block of the table, and behind a table
behind_producer : Writer
behind_producer = end_block (abbreviated (define (enter begun 13 3) of_bytes) 4 1 producer)

in_table : Writer
in_table = define (enter behind_producer 23 3) of_bytes

in_table_ready : IsReady in_table
unfolding in_table behind_producer abbreviation_for rest_of
in_table_ready = record { plain = refl; there = refl }

behind_table : Bytes → Writer
behind_table bytes = end_block (abbreviated in_table 4 1 bytes)

table_put : (bytes : Bytes) → records (tree_of in_table (a_short_record 4 1 bytes no_more)) ≡ one_record 1 bytes nothing_more
unfolding tree_of
table_put bytes = short_put in_table 1 bytes no_more in_table_ready (λ v ready. refl)

module_put : (m : Module) → records (tree_of (behind_table (string_table m)) (put_block module_id (put_module (texts_in m) m) no_more)) ≡ records_put (put_block module_id (put_module (texts_in m) m) no_more)
unfolding IsLong
module_put m = long_put (behind_table (string_table m)) (put_block module_id (put_module (texts_in m) m) no_more) (module_long (texts_in m) m, tt)

pub all_put : (m : Module) → records (tree_of begun (written_module m)) ≡ records_put (written_module m)
unfolding tree_of written abbreviation_for rest_of in_table behind_producer behind_table
all_put m =
    ap (λ x. a_block_of 13 (one_record 1 producer nothing_more) (a_block_of 23 x (records (tree_of (behind_table (string_table m)) (put_block module_id (put_module (texts_in m) m) no_more))))) (table_put (string_table m))
    ∙ ap (λ x. a_block_of 13 (one_record 1 producer nothing_more) (a_block_of 23 (one_record 1 (string_table m) nothing_more) x)) (module_put m)
