-- One label more, in the map of labels.
use Rattle.std.proofs.Common.{◌≡◌, refl, ℕ, List, Bor, true, false, is_some, Ok, Err}
use Rattle.std.specs.Map.{lookup}
use Rattle.std.specs.Str.{bytes_eq}
use Rattle.indexmap.specs.IndexMap.{insert_entry}
use Rattle.sk_asm.specs.Passes.{marked}
use Rattle.sk_asm.specs.declared.fault.AsmFault.TheVariants.{Twice}
use Rattle.sk_asm.proofs.Entries.{entries_in, named_in_entries, entries_after}

pub marked-again : (n at : ℕ) (name : Bor (List ℕ)) (entries : List (Bor (List ℕ) × ℕ)) → is_some (lookup (λ key. bytes_eq name.now key.now) entries) ≡ true
    → marked n (entries_in entries) at name.now ≡ Err (Twice n)
marked-again n at name entries h = rw (named_in_entries name.now entries, h) refl

pub marked-new : (n at : ℕ) (name : Bor (List ℕ)) (entries after : List (Bor (List ℕ) × ℕ)) → is_some (lookup (λ key. bytes_eq name.now key.now) entries) ≡ false
    → after ≡ insert_entry (λ a b. bytes_eq a.now b.now) entries name at
    → marked n (entries_in entries) at name.now ≡ Ok (entries_in after, at)
marked-new n at name entries after h e =
    let grown = entries_after name at entries after h e in
    rw (named_in_entries name.now entries, h, grown) refl
