use Rattle.std.proofs.Common.{[], length, map, sym, ap, subst, ◌∙◌}
use Rattle.type_table.specs.Types.{Types, trees}
use Rattle.module_arena.specs.TypeTests.{is_void}
use Rattle.record_table.specs.Faults.{records}
use Rattle.record_read.specs.Fields.{texts_of}
use Rattle.bitcode_read.specs.Head.Ahead.{first_module}
use Rattle.bitcode_read.specs.Ahead.Bodies.{Foresees, names_given}
use Rattle.bitcode_read.specs.Ahead.Entries.{Declares}
use Rattle.bitcode_read.proofs.ahead.declare.declare_entries.Goals as goal

pub returns-clause-declares : goal.returns-clause-declares
returns-clause-declares c = λ tree stream.
    subst (λ l. Declares (texts_of c.args.texts.now) (length c.args.arena.now.table.types) c.declare_all.new.arena (map names_given l) c.args.arena.now (first_module (records tree))) c.as_slice-2.ensures.value (c.in_ok-declare_all.ensures tree stream (c.in_ok-found.ensures.counted tree stream))

pub returns-clause-foresees : goal.returns-clause-foresees
returns-clause-foresees c = λ tree k stream types.
    subst (λ n. Foresees (texts_of c.args.texts.now) k n [] c.in_ok-found.found.bodies.items (first_module (records tree))) (c.type_count-types.ensures.count ∙ ap (λ (t : Types). length t.types) c.types.ensures)
    (c.in_ok-found.ensures.foresees tree k stream
    (ap (λ l. map is_void l) types ∙ (ap (λ (t : Types). map is_void (trees t)) (sym c.types-2.ensures) ∙ (sym c.in_ok-voids.ensures ∙ sym c.as_slice.ensures.value))))
