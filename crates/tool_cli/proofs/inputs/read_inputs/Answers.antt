use Rattle.std.proofs.Common.{◌≡◌, inl, inr, [], ◌∷◌, length, drop, refl, ap, ◌∙◌, arith, length-append}
use Rattle.std.proofs.lemmas.Result.{err_from_is_err_and}
use Rattle.ir_base.specs.Outside.{Rose}
use Rattle.tool_cli.proofs.InputsInOrder.{Unread, files_by, onto_none, refused_one, over_one, told_refused, told_over, told_on, told_at_end, stdin_on, stdin_at_end, unread_on, unread_so_far, lost_by, lost_so_far}
use Rattle.tool_cli.specs.declared.inputs.TheConstants.{LARGEST_TOGETHER}
use Rattle.tool_cli.proofs.Judging.{short_more}
use Rattle.tool_cli.proofs.Together.{left_on, passed_at, sum_on, texts_on}
use Rattle.tool_cli.proofs.Front.{due_on, front_over, front_refused, none_due, turn_kept}
use Rattle.tool_cli.proofs.Order.{untouched_on, order_kept, refuses_only, over_only, memory_keeps, files_on}
use Rattle.tool_cli.proofs.inputs.read_inputs.Goals as goal

pub loop-name-init : goal.loop-name-init
loop-name-init g c = record {
  count = ap length c.new-texts.ensures;
  few = omega arith;
  short = rw c.new-texts.ensures tt;
  same_contents = refl;
  same_reads = refl;
  same_writes = refl;
  same_faults = refl;
  input = Unread refl refl refl;
  untouched = inl refl;
  due = λ held told refusal first. (first, refl);
  no_file = λ none. refl;
  held = rw c.new-texts.ensures tt;
  behind = refl;
  sum = rw c.new-texts.ensures refl;
  told = λ held stdin tells. (stdin, (λ e. e, rw c.new-texts.ensures (onto_none _)));
}

pub overflow_add-total : goal.overflow_add-total
overflow_add-total g c = let few = c.in_ok-text.ensures.read.few in rw c.bytes.ensures (omega (arith, c.loop-name.invariant.few))

pub returns-in_err-text-clause-told : goal.returns-in_err-text-clause-told
returns-in_err-text-clause-told g c =
    let left = g.I.Source.left in
    let faults = g.I.Source.faults in
    let contents = g.F.Files.contents in
    let reads = g.F.Files.read_faults in
    let why = rw (c.loop-name.invariant.same_faults, c.loop-name.invariant.same_reads) at c.in_err-text.ensures.refused in
    let p = err_from_is_err_and c.from_residual.result c.from_residual.ensures.1 in
    rw (p.1, p.2) (λ held stdin tells.
    told_refused c.args.names.now c.loop-name.name-index c.name-item.result (contents c.args.files.now) (contents c.loop-name.files) (left c.args.input.now) (left c.loop-name.input) held stdin c.loop-name.total c.loop-name.texts c.in_err-text.field-0.0
    (Rose (faults c.args.input.now) (faults c.read_input.new.input)) (Rose (reads c.args.files.now) (reads c.read_input.new.files))
    c.loop-name-test.true c.name-item.is c.loop-name.invariant.same_contents (c.loop-name.invariant.told held stdin tells) tells why)

pub returns-in_err-text-clause-refused : goal.returns-in_err-text-clause-refused
returns-in_err-text-clause-refused g c =
    let left = g.I.Source.left in
    let faults = g.I.Source.faults in
    let contents = g.F.Files.contents in
    let reads = g.F.Files.read_faults in
    let why = rw (c.loop-name.invariant.same_faults, c.loop-name.invariant.same_reads) at c.in_err-text.ensures.refused in
    let p = err_from_is_err_and c.from_residual.result c.from_residual.ensures.1 in
    rw (p.1, p.2) (refused_one c.args.names.now (drop c.loop-name.name-index c.args.names.now) c.name-item.result c.args.input.now c.loop-name.input (contents c.args.files.now) (contents c.loop-name.files) (left c.args.input.now) (left c.loop-name.input)
    (Rose (faults c.args.input.now) (faults c.read_input.new.input)) (Rose (reads c.args.files.now) (reads c.read_input.new.files)) c.in_err-text.field-0.0
    (c.loop-name.name-index, (c.loop-name-test.true, c.name-item.is)) c.loop-name.invariant.same_contents c.loop-name.invariant.input why)

pub returns-in_err-text-clause-leaves : goal.returns-in_err-text-clause-leaves
returns-in_err-text-clause-leaves g c =
    let left = g.I.Source.left in
    let contents = g.F.Files.contents in
    let reads = g.F.Files.read_faults in
    let writes = g.F.Files.write_faults in
    let p = err_from_is_err_and c.from_residual.result c.from_residual.ensures.1 in
    rw (p.1, p.2) (record {
      input_fine = tt;
      file_fine = tt;
      input_fault = rw c.loop-name.invariant.same_faults at c.in_err-text.ensures.leaves.input_fault;
      file_fault = rw c.loop-name.invariant.same_reads at c.in_err-text.ensures.leaves.file_fault;
      input = record {
        lost = lost_by c.args.names.now (drop c.loop-name.name-index c.args.names.now) c.args.input.now c.loop-name.input (left c.args.input.now) (left c.loop-name.input) (left c.read_input.new.input) c.loop-name.invariant.input c.read_input.ensures.leaves.input.lost;
        later = omega (arith, c.loop-name.invariant.same_faults, c.read_input.ensures.leaves.input.later);
      };
      files = files_by (contents c.args.files.now) (contents c.loop-name.files) (contents c.read_input.new.files) (reads c.args.files.now) (reads c.loop-name.files) (reads c.read_input.new.files) (writes c.args.files.now) (writes c.loop-name.files) (writes c.read_input.new.files)
          c.loop-name.invariant.same_contents c.loop-name.invariant.same_reads c.loop-name.invariant.same_writes c.read_input.ensures.leaves.files;
    })

pub returns-in_err-text-clause-untouched : goal.returns-in_err-text-clause-untouched
returns-in_err-text-clause-untouched g c =
    let left = g.I.Source.left in
    record {
      unread = unread_on c.args.names.now c.loop-name.name-index c.name-item.result c.args.input.now c.loop-name.input c.read_input.new.input (left c.args.input.now) (left c.loop-name.input) c.loop-name-test.true c.name-item.is c.read_input.ensures.untouched.unread c.loop-name.invariant.input;
      files_unread = files_on c.args.names.now c.loop-name.name-index c.name-item.result c.args.files.now c.loop-name.files c.read_input.new.files c.loop-name-test.true c.name-item.is c.read_input.ensures.untouched.files_unread c.loop-name.invariant.no_file;
    }

pub returns-then-total-gt-LARGEST_TOGETHER-clause-untouched : goal.returns-then-total-gt-LARGEST_TOGETHER-clause-untouched
returns-then-total-gt-LARGEST_TOGETHER-clause-untouched g c =
    let left = g.I.Source.left in
    record {
      unread = unread_on c.args.names.now c.loop-name.name-index c.name-item.result c.args.input.now c.loop-name.input c.read_input.new.input (left c.args.input.now) (left c.loop-name.input) c.loop-name-test.true c.name-item.is c.read_input.ensures.untouched.unread c.loop-name.invariant.input;
      files_unread = files_on c.args.names.now c.loop-name.name-index c.name-item.result c.args.files.now c.loop-name.files c.read_input.new.files c.loop-name-test.true c.name-item.is c.read_input.ensures.untouched.files_unread c.loop-name.invariant.no_file;
    }

pub returns-in_err-push-clause-untouched : goal.returns-in_err-push-clause-untouched
returns-in_err-push-clause-untouched g c =
    let left = g.I.Source.left in
    record {
      unread = unread_on c.args.names.now c.loop-name.name-index c.name-item.result c.args.input.now c.loop-name.input c.read_input.new.input (left c.args.input.now) (left c.loop-name.input) c.loop-name-test.true c.name-item.is c.read_input.ensures.untouched.unread c.loop-name.invariant.input;
      files_unread = files_on c.args.names.now c.loop-name.name-index c.name-item.result c.args.files.now c.loop-name.files c.read_input.new.files c.loop-name-test.true c.name-item.is c.read_input.ensures.untouched.files_unread c.loop-name.invariant.no_file;
    }

pub returns-then-total-gt-LARGEST_TOGETHER-clause-told : goal.returns-then-total-gt-LARGEST_TOGETHER-clause-told
returns-then-total-gt-LARGEST_TOGETHER-clause-told g c =
    let left = g.I.Source.left in
    let faults = g.I.Source.faults in
    let contents = g.F.Files.contents in
    let reads = g.F.Files.read_faults in
    λ held stdin tells.
    told_over c.args.names.now c.loop-name.name-index c.name-item.result (contents c.args.files.now) (contents c.loop-name.files) (left c.args.input.now) (left c.loop-name.input) (left c.read_input.new.input) held stdin c.loop-name.total c.loop-name.texts c.in_ok-text.text c.too_large.result
    (Rose (faults c.args.input.now) (faults c.read_input.new.input)) (Rose (reads c.args.files.now) (reads c.read_input.new.files))
    c.loop-name-test.true c.name-item.is c.loop-name.invariant.same_contents (c.loop-name.invariant.told held stdin tells) tells c.in_ok-text.ensures.read
    (rw c.bytes.ensures at c.if-total-gt-LARGEST_TOGETHER.true) (rw c.bytes-then-total-gt-LARGEST_TOGETHER.ensures at c.too_large.ensures)

pub returns-then-total-gt-LARGEST_TOGETHER-clause-refused : goal.returns-then-total-gt-LARGEST_TOGETHER-clause-refused
returns-then-total-gt-LARGEST_TOGETHER-clause-refused g c =
    let left = g.I.Source.left in
    let faults = g.I.Source.faults in
    let contents = g.F.Files.contents in
    let reads = g.F.Files.read_faults in
    over_one c.args.names.now c.name-item.result (contents c.args.files.now) (left c.args.input.now)
    (Rose (faults c.args.input.now) (faults c.read_input.new.input)) (Rose (reads c.args.files.now) (reads c.read_input.new.files)) c.too_large.result
    (c.loop-name.name-index, (c.loop-name-test.true, c.name-item.is))
    (passed_at c.args.names.now c.loop-name.name-index c.name-item.result c.in_ok-text.text (contents c.args.files.now) (contents c.loop-name.files) (left c.args.input.now) (left c.loop-name.input) (left c.read_input.new.input) c.loop-name.texts
    c.loop-name-test.true c.name-item.is c.loop-name.invariant.same_contents c.loop-name.invariant.behind c.loop-name.invariant.held c.in_ok-text.ensures.read c.loop-name.total c.loop-name.invariant.sum
    (rw c.bytes.ensures at c.if-total-gt-LARGEST_TOGETHER.true))
    (rw c.bytes-then-total-gt-LARGEST_TOGETHER.ensures at c.too_large.ensures)

pub returns-then-total-gt-LARGEST_TOGETHER-clause-leaves : goal.returns-then-total-gt-LARGEST_TOGETHER-clause-leaves
returns-then-total-gt-LARGEST_TOGETHER-clause-leaves g c =
    let left = g.I.Source.left in
    let contents = g.F.Files.contents in
    let writes = g.F.Files.write_faults in
    let faults = g.I.Source.faults in
    let reads = g.F.Files.read_faults in
    let fine : faults c.read_input.new.input ≡ faults c.loop-name.input = c.in_ok-text.ensures.leaves.input_fine in
    let file_fine : reads c.read_input.new.files ≡ reads c.loop-name.files = c.in_ok-text.ensures.leaves.file_fine in
    record {
      input_fine = tt;
      file_fine = tt;
      input_fault = λ h. absurd (omega (arith, h, c.loop-name.invariant.same_faults, fine));
      file_fault = λ h. absurd (omega (arith, h, c.loop-name.invariant.same_reads, file_fine));
      input = record {
        lost = lost_by c.args.names.now (drop c.loop-name.name-index c.args.names.now) c.args.input.now c.loop-name.input (left c.args.input.now) (left c.loop-name.input) (left c.read_input.new.input) c.loop-name.invariant.input c.read_input.ensures.leaves.input.lost;
        later = omega (arith, c.loop-name.invariant.same_faults, c.read_input.ensures.leaves.input.later);
      };
      files = files_by (contents c.args.files.now) (contents c.loop-name.files) (contents c.read_input.new.files) (reads c.args.files.now) (reads c.loop-name.files) (reads c.read_input.new.files) (writes c.args.files.now) (writes c.loop-name.files) (writes c.read_input.new.files)
          c.loop-name.invariant.same_contents c.loop-name.invariant.same_reads c.loop-name.invariant.same_writes c.read_input.ensures.leaves.files;
    }

pub returns-in_err-push-clause-leaves : goal.returns-in_err-push-clause-leaves
returns-in_err-push-clause-leaves g c =
    let left = g.I.Source.left in
    let contents = g.F.Files.contents in
    let writes = g.F.Files.write_faults in
    let faults = g.I.Source.faults in
    let reads = g.F.Files.read_faults in
    let fine : faults c.read_input.new.input ≡ faults c.loop-name.input = c.in_ok-text.ensures.leaves.input_fine in
    let file_fine : reads c.read_input.new.files ≡ reads c.loop-name.files = c.in_ok-text.ensures.leaves.file_fine in
    let p = err_from_is_err_and c.from_residual-in_err-push.result c.from_residual-in_err-push.ensures.1 in
    rw (p.1, p.2) (record {
      input_fine = tt;
      file_fine = tt;
      input_fault = λ h. absurd (omega (arith, h, c.loop-name.invariant.same_faults, fine));
      file_fault = λ h. absurd (omega (arith, h, c.loop-name.invariant.same_reads, file_fine));
      input = record {
        lost = lost_by c.args.names.now (drop c.loop-name.name-index c.args.names.now) c.args.input.now c.loop-name.input (left c.args.input.now) (left c.loop-name.input) (left c.read_input.new.input) c.loop-name.invariant.input c.read_input.ensures.leaves.input.lost;
        later = omega (arith, c.loop-name.invariant.same_faults, c.read_input.ensures.leaves.input.later);
      };
      files = files_by (contents c.args.files.now) (contents c.loop-name.files) (contents c.read_input.new.files) (reads c.args.files.now) (reads c.loop-name.files) (reads c.read_input.new.files) (writes c.args.files.now) (writes c.loop-name.files) (writes c.read_input.new.files)
          c.loop-name.invariant.same_contents c.loop-name.invariant.same_reads c.loop-name.invariant.same_writes c.read_input.ensures.leaves.files;
    })

pub returns-in_err-push-clause-told : goal.returns-in_err-push-clause-told
returns-in_err-push-clause-told g c =
    let p = err_from_is_err_and c.from_residual-in_err-push.result c.from_residual-in_err-push.ensures.1 in
    rw (p.1, p.2) (λ held stdin tells. inr tt)

pub returns-in_err-push-clause-refused : goal.returns-in_err-push-clause-refused
returns-in_err-push-clause-refused g c =
    let p = err_from_is_err_and c.from_residual-in_err-push.result c.from_residual-in_err-push.ensures.1 in
    rw (p.1, p.2) tt

pub loop-name-preserved : goal.loop-name-preserved
loop-name-preserved g c =
    let left = g.I.Source.left in
    let faults = g.I.Source.faults in
    let contents = g.F.Files.contents in
    let reads = g.F.Files.read_faults in
    record {
      count = omega (arith, ap length c.in_ok-push.ensures.ok, length-append c.loop-name.texts (c.in_ok-text.text ∷ []), c.loop-name.invariant.count);
      few = c.if-total-gt-LARGEST_TOGETHER.false;
      short = rw c.in_ok-push.ensures.ok (short_more c.loop-name.texts c.in_ok-text.text c.loop-name.invariant.short c.in_ok-text.ensures.read.few);
      same_contents = c.read_input.ensures.leaves.files.contents ∙ c.loop-name.invariant.same_contents;
      same_reads = c.in_ok-text.ensures.leaves.file_fine ∙ c.loop-name.invariant.same_reads;
      same_writes = c.read_input.ensures.leaves.files.writes ∙ c.loop-name.invariant.same_writes;
      same_faults = c.in_ok-text.ensures.leaves.input_fine ∙ c.loop-name.invariant.same_faults;
      input = stdin_on c.args.names.now c.loop-name.name-index c.name-item.result c.in_ok-text.text (contents c.loop-name.files) c.args.input.now c.loop-name.input c.read_input.new.input (left c.args.input.now) (left c.loop-name.input) (left c.read_input.new.input)
          c.loop-name-test.true c.name-item.is c.in_ok-text.ensures.read c.read_input.ensures.untouched.unread (λ h. ap left (c.read_input.ensures.untouched.unread h)) c.read_input.ensures.leaves.input.lost c.loop-name.invariant.input;
      untouched = untouched_on c.args.names.now c.loop-name.name-index c.name-item.result c.args.input.now c.loop-name.input c.read_input.new.input c.name-item.is c.read_input.ensures.untouched.unread c.loop-name.invariant.untouched;
      due = λ held told.
          due_on c.args.names.now c.loop-name.name-index c.name-item.result held c.loop-name.total c.args.input.now c.loop-name.input c.loop-name-test.true c.name-item.is (c.loop-name.invariant.due held told)
          (contents c.args.files.now) (contents c.loop-name.files) (left c.loop-name.input) (left c.read_input.new.input) c.loop-name.invariant.same_contents told
          c.in_ok-text.text c.in_ok-text.ensures.read c.read_input.new.input c.bytes.result.now c.bytes.ensures c.if-total-gt-LARGEST_TOGETHER.false c.read_input.ensures.untouched.unread;
      no_file = files_on c.args.names.now c.loop-name.name-index c.name-item.result c.args.files.now c.loop-name.files c.read_input.new.files c.loop-name-test.true c.name-item.is c.read_input.ensures.untouched.files_unread c.loop-name.invariant.no_file;
      held = rw c.in_ok-push.ensures.ok (texts_on c.args.names.now c.loop-name.name-index c.name-item.result c.in_ok-text.text (contents c.args.files.now) (contents c.loop-name.files) (left c.args.input.now) (left c.loop-name.input) (left c.read_input.new.input) c.loop-name.texts
          c.loop-name-test.true c.name-item.is c.loop-name.invariant.same_contents c.loop-name.invariant.behind c.loop-name.invariant.held c.in_ok-text.ensures.read);
      behind = left_on c.args.names.now c.loop-name.name-index c.name-item.result c.in_ok-text.text (contents c.args.files.now) (contents c.loop-name.files) (left c.args.input.now) (left c.loop-name.input) (left c.read_input.new.input) c.loop-name.texts
          c.loop-name-test.true c.name-item.is c.loop-name.invariant.behind c.in_ok-text.ensures.read (λ h. ap left (c.read_input.ensures.untouched.unread h));
      sum = sum_on c.loop-name.texts c.push.new.self c.in_ok-text.text c.bytes.result.now c.loop-name.total c.in_ok-push.ensures.ok c.bytes.ensures c.loop-name.invariant.sum;
      told = λ held stdin tells.
          told_on c.args.names.now c.loop-name.name-index c.name-item.result (contents c.args.files.now) (contents c.loop-name.files) (left c.args.input.now) (left c.loop-name.input) (left c.read_input.new.input) held stdin c.loop-name.total c.loop-name.texts c.push.new.self c.in_ok-text.text c.bytes.result.now
          c.loop-name-test.true c.name-item.is c.loop-name.invariant.same_contents (c.loop-name.invariant.told held stdin tells) tells c.in_ok-text.ensures.read (λ h. ap left (c.read_input.ensures.untouched.unread h)) c.bytes.ensures c.if-total-gt-LARGEST_TOGETHER.false c.in_ok-push.ensures.ok;
    }

pub returns-clause-told : goal.returns-clause-told
returns-clause-told g c =
    let left = g.I.Source.left in
    let faults = g.I.Source.faults in
    let contents = g.F.Files.contents in
    let reads = g.F.Files.read_faults in
    λ held stdin tells. inl (told_at_end c.args.names.now c.loop-name.name-index (left c.args.input.now) (left c.loop-name.input) held stdin c.loop-name.total c.loop-name.texts c.loop-name-test.false (c.loop-name.invariant.told held stdin tells))

pub returns-clause-count : goal.returns-clause-count
returns-clause-count g c =
    omega (arith, c.loop-name.invariant.count, c.loop-name-test.false, c.loop-name.auto.name-index-end)

pub returns-clause-untouched : goal.returns-clause-untouched
returns-clause-untouched g c =
    let left = g.I.Source.left in
    record {
      unread = unread_so_far c.args.names.now (drop c.loop-name.name-index c.args.names.now) c.args.input.now c.loop-name.input (left c.args.input.now) (left c.loop-name.input) c.loop-name.invariant.input;
      files_unread = c.loop-name.invariant.no_file;
    }

pub returns-clause-emptied : goal.returns-clause-emptied
returns-clause-emptied g c =
    let left = g.I.Source.left in
    let faults = g.I.Source.faults in
    let contents = g.F.Files.contents in
    let reads = g.F.Files.read_faults in
    stdin_at_end c.args.names.now c.loop-name.name-index c.args.input.now c.loop-name.input (left c.args.input.now) (left c.loop-name.input) c.loop-name-test.false c.loop-name.invariant.input

pub returns-clause-leaves : goal.returns-clause-leaves
returns-clause-leaves g c =
    let left = g.I.Source.left in
    record {
      input_fine = c.loop-name.invariant.same_faults;
      file_fine = c.loop-name.invariant.same_reads;
      input_fault = λ h. absurd (omega (arith, h, c.loop-name.invariant.same_faults));
      file_fault = λ h. absurd (omega (arith, h, c.loop-name.invariant.same_reads));
      input = record {
        lost = lost_so_far c.args.names.now (drop c.loop-name.name-index c.args.names.now) c.args.input.now c.loop-name.input (left c.args.input.now) (left c.loop-name.input) c.loop-name.invariant.input;
        later = omega (arith, c.loop-name.invariant.same_faults);
      };
      files = record {
        contents = c.loop-name.invariant.same_contents;
        later = omega (arith, c.loop-name.invariant.same_reads);
        writes = c.loop-name.invariant.same_writes;
      };
    }

pub returns-clause-short : goal.returns-clause-short
returns-clause-short g c =
    c.loop-name.invariant.short

pub returns-in_err-text-clause-order : goal.returns-in_err-text-clause-order
returns-in_err-text-clause-order g c =
    let left = g.I.Source.left in
    let faults = g.I.Source.faults in
    let contents = g.F.Files.contents in
    let reads = g.F.Files.read_faults in
    let p = err_from_is_err_and c.from_residual.result c.from_residual.ensures.1 in
    rw (p.1, p.2) (order_kept c.args.names.now c.loop-name.name-index c.name-item.result c.args.input.now c.loop-name.input c.read_input.new.input c.in_err-text.field-0.0 c.loop-name-test.true c.name-item.is c.read_input.ensures.untouched.unread (refuses_only (contents c.loop-name.files) (left c.loop-name.input) (Rose (faults c.loop-name.input) (faults c.read_input.new.input)) (Rose (reads c.loop-name.files) (reads c.read_input.new.files)) c.name-item.result c.in_err-text.field-0.0 c.in_err-text.ensures.refused) c.loop-name.invariant.untouched)

pub returns-then-total-gt-LARGEST_TOGETHER-clause-order : goal.returns-then-total-gt-LARGEST_TOGETHER-clause-order
returns-then-total-gt-LARGEST_TOGETHER-clause-order g c =
    order_kept c.args.names.now c.loop-name.name-index c.name-item.result c.args.input.now c.loop-name.input c.read_input.new.input c.too_large.result c.loop-name-test.true c.name-item.is c.read_input.ensures.untouched.unread (over_only c.name-item.result LARGEST_TOGETHER c.too_large.result (rw c.bytes-then-total-gt-LARGEST_TOGETHER.ensures at c.too_large.ensures)) c.loop-name.invariant.untouched

pub returns-in_err-push-clause-order : goal.returns-in_err-push-clause-order
returns-in_err-push-clause-order g c =
    let p = err_from_is_err_and c.from_residual-in_err-push.result c.from_residual-in_err-push.ensures.1 in
    rw (p.1, p.2) (memory_keeps c.args.names.now c.args.input.now c.read_input.new.input)

pub returns-in_err-text-clause-turn : goal.returns-in_err-text-clause-turn
returns-in_err-text-clause-turn g c = λ held refusal told first.
    turn_kept c.args.names.now c.loop-name.name-index c.name-item.result held c.loop-name.total c.args.input.now c.loop-name.input c.loop-name-test.true c.name-item.is (c.loop-name.invariant.due held told) c.read_input.new.input c.read_input.ensures.untouched.unread refusal first

pub returns-then-total-gt-LARGEST_TOGETHER-clause-turn : goal.returns-then-total-gt-LARGEST_TOGETHER-clause-turn
returns-then-total-gt-LARGEST_TOGETHER-clause-turn g c = λ held refusal told first.
    turn_kept c.args.names.now c.loop-name.name-index c.name-item.result held c.loop-name.total c.args.input.now c.loop-name.input c.loop-name-test.true c.name-item.is (c.loop-name.invariant.due held told) c.read_input.new.input c.read_input.ensures.untouched.unread refusal first

pub returns-in_err-push-clause-turn : goal.returns-in_err-push-clause-turn
returns-in_err-push-clause-turn g c = λ held refusal told first.
    turn_kept c.args.names.now c.loop-name.name-index c.name-item.result held c.loop-name.total c.args.input.now c.loop-name.input c.loop-name-test.true c.name-item.is (c.loop-name.invariant.due held told) c.read_input.new.input c.read_input.ensures.untouched.unread refusal first

pub returns-clause-turn : goal.returns-clause-turn
returns-clause-turn g c = λ held refusal told first. (c.loop-name.invariant.due held told refusal first).1

pub returns-in_err-text-clause-in_turn : goal.returns-in_err-text-clause-in_turn
returns-in_err-text-clause-in_turn g c =
    let left = g.I.Source.left in
    let faults = g.I.Source.faults in
    let contents = g.F.Files.contents in
    let reads = g.F.Files.read_faults in
    let why = rw (c.loop-name.invariant.same_faults, c.loop-name.invariant.same_reads) at c.in_err-text.ensures.refused in
    let p = err_from_is_err_and c.from_residual.result c.from_residual.ensures.1 in
    rw (p.1, p.2) (λ held refusal told first.
    front_refused c.args.names.now c.loop-name.name-index c.name-item.result held c.loop-name.total c.args.input.now c.loop-name.input c.loop-name-test.true c.name-item.is (c.loop-name.invariant.due held told)
    (contents c.args.files.now) (contents c.loop-name.files) (left c.loop-name.input) (left c.read_input.new.input) c.loop-name.invariant.same_contents told
    (Rose (faults c.args.input.now) (faults c.read_input.new.input)) (Rose (reads c.args.files.now) (reads c.read_input.new.files)) c.in_err-text.field-0.0 refusal why first)

pub returns-then-total-gt-LARGEST_TOGETHER-clause-in_turn : goal.returns-then-total-gt-LARGEST_TOGETHER-clause-in_turn
returns-then-total-gt-LARGEST_TOGETHER-clause-in_turn g c =
    let left = g.I.Source.left in
    let contents = g.F.Files.contents in
    let reads = g.F.Files.read_faults in
    λ held refusal told first.
    front_over c.args.names.now c.loop-name.name-index c.name-item.result held c.loop-name.total c.args.input.now c.loop-name.input c.loop-name-test.true c.name-item.is (c.loop-name.invariant.due held told)
    (contents c.args.files.now) (contents c.loop-name.files) (left c.loop-name.input) (left c.read_input.new.input) c.loop-name.invariant.same_contents told
    c.in_ok-text.text c.in_ok-text.ensures.read (Rose (reads c.args.files.now) (reads c.read_input.new.files)) c.too_large.result refusal
    (rw c.bytes.ensures at c.if-total-gt-LARGEST_TOGETHER.true) (rw c.bytes-then-total-gt-LARGEST_TOGETHER.ensures at c.too_large.ensures) first

pub returns-in_err-push-clause-in_turn : goal.returns-in_err-push-clause-in_turn
returns-in_err-push-clause-in_turn g c =
    let p = err_from_is_err_and c.from_residual-in_err-push.result c.from_residual-in_err-push.ensures.1 in
    rw (p.1, p.2) (λ held refusal told first. inr tt)

pub returns-clause-fine_front : goal.returns-clause-fine_front
returns-clause-fine_front g c = λ held refusal told first.
    none_due c.args.names.now c.loop-name.name-index held c.loop-name.total c.args.input.now c.loop-name.input refusal c.loop-name-test.false (c.loop-name.invariant.due held told) first
