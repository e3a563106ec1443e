use Rattle.link_names.proofs.rows.rows.GrowingRows.name_row.Goals as goal

pub returns-clause-named : goal.returns-clause-named
returns-clause-named c = record {
  new = c.in_ok-new.new;
  is = c.in_ok-new.ensures.name;
  given = c.in_ok-new.ensures.given;
  avoided = c.name_for.ensures.avoided;
  names = c.in_ok-push.ensures.ok;
}
