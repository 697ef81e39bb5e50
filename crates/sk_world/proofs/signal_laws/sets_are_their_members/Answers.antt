use Rattle.sk_world.specs.views.Members.{contains-empty, contains-insert, contains-remove, contains-union, contains-difference, same_set}
use Rattle.sk_world.proofs.signal_laws.sets_are_their_members.Goals as goal

pub returns : goal.returns
returns c = record {
  members = record {
    empty = contains-empty;
    insert = contains-insert;
    remove = contains-remove;
    union = contains-union;
    difference = contains-difference;
    same = same_set;
  };
}
