-- The machine of the definitions has the laws that are said of any machine.
use Rattle.std.proofs.Common.{◌≡◌, sym, refl, subst, IsTrue, List, [], ◌∷◌, Some}
use Rattle.sk_laws.specs.Common.{is_some, list_any, World, at, Event, Images, step_of, world_after, Happening, lineage_of, is_fork_of, history_after, authority_of_lineage, authority_at}
use Rattle.sk_laws.specs.TellingLaws.{told_by}
use Rattle.sk_laws.specs.AnyMachine.{world_by, history_by, GivesAuthorityByLineage, TellsEndsOnce, HasMachineLaws}
use Rattle.sk_laws.proofs.LineageSteps.{authority_is_of_lineage}
use Rattle.sk_laws.proofs.Tellings.{end_is_told_once}
use Rattle.sk_laws.proofs.Confined.{event_is_confined}

same_world : (declared : Images) (w : World) (events : List Event) → world_after declared w events ≡ world_by step_of declared w events
same_world declared w [] = refl
same_world declared w (event ∷ events) = same_world declared (step_of declared w event).world events

same_history : (declared : Images) (w : World) (events : List Event) (before : List Happening) → history_after declared w events before ≡ history_by step_of declared w events before
same_history declared w [] before = refl
same_history declared w (event ∷ events) before = same_history declared (step_of declared w event).world events ((event, (step_of declared w event).answer) ∷ before)

by_lineage : GivesAuthorityByLineage step_of
by_lineage declared w events pid there =
    let known : IsTrue (is_some (at (world_after declared w events) pid)) = subst (λ v. IsTrue (is_some (at v pid))) (sym (same_world declared w events)) there in
    subst (λ v. authority_at v pid ≡ authority_of_lineage declared w (lineage_of (history_by step_of declared w events []) pid)) (same_world declared w events)
    (subst (λ h. authority_at (world_after declared w events) pid ≡ authority_of_lineage declared w (lineage_of h pid)) (same_history declared w events [])
    (authority_is_of_lineage declared w events pid known).1)

told_once : TellsEndsOnce step_of
told_once declared w first between later child status again is ended told =
    let after : World = (step_of declared w first).world in
    subst (λ h. IsTrue (list_any (is_fork_of child) h)) (same_history declared after between [])
    (end_is_told_once declared w first between later child status again is ended
    (subst (λ v. told_by (step_of declared v later).answer ≡ Some (child, again)) (sym (same_world declared after between)) told))

pub has_machine_laws : HasMachineLaws
has_machine_laws = record { authority = by_lineage; once = told_once; confined = event_is_confined }
