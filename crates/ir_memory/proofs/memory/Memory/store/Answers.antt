use Rattle.std.proofs.Common.{◌≡◌, ◌∙◌, ap, sym, subst, refl, false, Some, Ok}
use Rattle.std.specs.Prelude.{IsOk}
use Rattle.ir_memory.specs.Cell.{size, leaf_cells, read}
use Rattle.ir_memory.specs.Memory.{Blocks, access, cells_at, put_at, read_at}
use Rattle.ir_memory.specs.Given.{HasKnown}
use Rattle.ir_memory.specs.Seen.{at, all_seen, ended_block}
use Rattle.ir_memory.proofs.Answering.{undefined, wanting, stored-back}
use Rattle.ir_memory.proofs.ReadBack.{access-read}
use Rattle.ir_memory.proofs.Known.{IsKept-stored}
use Rattle.ir_memory.proofs.Search.{AreStarts-stored}
use Rattle.ir_memory.proofs.memory.Memory.store.Goals as goal

pub returns-in_err-place-clause-answer : goal.returns-in_err-place-clause-answer
returns-in_err-place-clause-answer c =
    let self = c.self.inside in
    let m : Blocks = record { list = all_seen (at self.pieces) self.kept; next = self.next; sealed = self.sealed } in
    let there = rw c.size.ensures.value at (c.in_err-place.ensures.value self.next) in
    undefined _ _ _ c.from_residual.result _ c.from_residual.ensures.0 c.from_residual.ensures.1 (rw (← c.self.view_is) (ap (put_at m (leaf_cells c.args.leaf c.args.value)) there)) refl

pub returns-in_err-write_leaf-clause-answer : goal.returns-in_err-write_leaf-clause-answer
returns-in_err-write_leaf-clause-answer c =
    let self = c.self.inside in
    let m : Blocks = record { list = all_seen (at self.pieces) self.kept; next = self.next; sealed = self.sealed } in
    let there = rw c.size.ensures.value at (c.in_ok-place.ensures.value self.next) in
    let from = c.from_residual-in_err-write_leaf in
    wanting _ _ _ from.result from.ensures.0 from.ensures.1
    (rw (← c.self.view_is) (subst (λ a. IsOk (put_at m (leaf_cells c.args.leaf c.args.value) a)) (sym there) refl))
    (ap (λ bs. record m { list = bs }) c.in_err-write_leaf.ensures.err ∙ c.self.view_is)

pub invariant_of-self-2 : goal.invariant_of-self-2
invariant_of-self-2 c =
    let known : HasKnown (all_seen (at c.self.inside.pieces) c.self.inside.kept) c.args.value = rw (← c.self.view_is) at c.requires.known in
    rw c.in_ok-write_leaf.ensures.value (
      IsKept-stored (all_seen (at c.self.inside.pieces) c.self.inside.kept) c.self.inside.next c.self.inside.live _ c.args.leaf c.args.value known c.self.invariant.0,
      AreStarts-stored _ _ c.args.leaf c.args.value (all_seen (at c.self.inside.pieces) c.self.inside.kept) c.self.invariant.1,
      c.write_leaf.ensures.sound _ c.self.invariant.2,
      c.self.invariant.3,
    )

pub returns-clause-answer : goal.returns-clause-answer
returns-clause-answer c =
    let self = c.self.inside in
    let m : Blocks = record { list = all_seen (at self.pieces) self.kept; next = self.next; sealed = self.sealed } in
    let there = rw c.size.ensures.value at (c.in_ok-place.ensures.value self.next) in
    rw (← c.self.view_is) (ap (put_at m (leaf_cells c.args.leaf c.args.value)) there ∙ ap (λ bs. Ok (record m { list = bs })) (sym c.in_ok-write_leaf.ensures.value))

pub returns-clause-back : goal.returns-clause-back
returns-clause-back c =
    let self = c.self.inside in
    let place = c.in_ok-place.place in
    let m : Blocks = record { list = all_seen (at self.pieces) self.kept; next = self.next; sealed = self.sealed } in
    let there = rw c.size.ensures.value at (c.in_ok-place.ensures.value self.next) in
    let again = access-read m (size c.args.leaf) c.args.align place.index place.offset (leaf_cells c.args.leaf c.args.value) c.args.address (Some place) there in
    let new = c.in_ok-write_leaf.ensures.value in
    let here = subst (λ blocks. access (record m { list = blocks }) (size c.args.leaf) c.args.align false c.args.address ≡ Ok (Some place)) (sym new) again in
    let holds = rw c.size.ensures.value at (c.in_ok-place.ensures.holds ended_block) in
    let back = subst (λ blocks. read c.args.leaf (cells_at blocks (size c.args.leaf) (Some place)) ≡ c.args.value) (sym new)
    (stored-back (at self.pieces) self.kept self.next place c.args.leaf c.args.value c.self.invariant.2 c.in_ok-place.ensures.within holds c.requires.leaf c.requires.fits) in
    ap (λ found. read_at (record m { list = all_seen (at c.write_leaf.new.pieces) c.write_leaf.new.kept }) c.args.leaf found) here ∙ ap Ok back
