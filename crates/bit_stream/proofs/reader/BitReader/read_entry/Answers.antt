use Rattle.std.proofs.Common.{ap, refl, ◌∙◌}
use Rattle.std.proofs.lemmas.Result.{err_from_is_err_and}
use Rattle.bit_stream.specs.declared.told.LastSeen.{LastSeen}
use Rattle.bit_stream.specs.Entry.{start, more, id_at, has_blob_by}
use Rattle.bit_stream.specs.Reader.{StreamReader, told_of}
use Rattle.bit_stream.proofs.Progress.{fewer_left}
use Rattle.bit_stream.proofs.DefinitionsInFront.{came_here, came_behind, reached_none, told_there}
use Rattle.bit_stream.proofs.reader.BitReader.read_entry.Goals as goal

pub loop-item-init : goal.loop-item-init
loop-item-init c = record {
  running = ap (λ (r : StreamReader). r.stopped) c.self.view_is ∙ c.requires;
  next = λ r h. h;
  passed = rw c.new.ensures start;
  told = refl;
}

pub returns-in_err-item : goal.returns-in_err-item
returns-in_err-item c =
    let p = err_from_is_err_and c.from_residual.result c.from_residual.ensures.1 in
    record {
      reached = rw (p.1, p.2) (reached_none _ _ _ c.loop-item.self-inside.scope c.loop-item.self-inside.cursor _ c.self.view_is c.loop-item.invariant.next c.in_err-item.ensures.read);
      told = rw p.1 (c.loop-item.invariant.told ∙ ap (λ (r : StreamReader). r.told) c.self.view_is);
    }

pub returns-in-Some : goal.returns-in-Some
returns-in-Some c =
    let found = rw c.in-Some.is at c.in_ok-item.ensures.read in
    let definitions = rw c.in-Some.is at c.in_ok-item.ensures.definitions in
    let told = rw c.in-Some.is at c.in_ok-item.ensures.told in
    let s = c.loop-item.self-inside.scope in
    let d = c.loop-item.self-inside.cursor in
    let there = told_there c.loop-item.self-inside.told c.in-Some.entry c.next_item.new.scope s d c.in_ok-item.item.id c.in_ok-item.item.has_blob told in
    let before = ap (λ (t : LastSeen). told_of t c.in-Some.entry c.next_item.new.scope (id_at s d) (has_blob_by s (id_at s d))) c.loop-item.invariant.told in
    record {
      reached = rw (← c.self.view_is) (
        c.loop-item.invariant.running,
        c.loop-item.invariant.next _ (came_here _ _ _ _ c.in-Some.entry found refl),
        record {
          scope = s;
          cursor = d;
          passed = rw definitions c.loop-item.invariant.passed;
          stands = found;
          told = c.behind-self-inside.ensures ∙ (there ∙ before);
        },
      );
      told = tt;
    }

pub loop-item-smaller : goal.loop-item-smaller
loop-item-smaller c =
    let found = rw c.in_default.is at c.in_ok-item.ensures.read in
    fewer_left c.loop-item.self-inside.scope c.loop-item.self-inside.cursor c.next_item.new.cursor _ found refl

pub loop-item-preserved : goal.loop-item-preserved
loop-item-preserved c =
    let found = rw c.in_default.is at c.in_ok-item.ensures.read in
    let definitions = rw c.in_default.is at c.in_ok-item.ensures.definitions in
    record {
      running = c.loop-item.invariant.running;
      next = λ r next. c.loop-item.invariant.next r (came_behind c.loop-item.self-inside.scope c.loop-item.self-inside.cursor c.next_item.new.cursor _ r found refl next);
      passed = rw definitions (more c.loop-item.invariant.passed found refl);
      told = c.loop-item.invariant.told;
    }
