use Rattle.name_judge.proofs.items.check_gathered.Goals as goal

pub check_each-requires : goal.check_each-requires
check_each-requires c = record {
  known = c.requires.known;
  mentions = c.requires.mentions;
  structs = c.requires.structs;
  items = c.requires.items;
  seen = c.nothing_seen-seen.ensures;
  globals = c.new-globals.ensures;
}
