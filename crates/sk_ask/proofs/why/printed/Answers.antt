use Rattle.std.proofs.Common.{◌≡◌, ◌++◌, ◌∙◌, ap, map, subst, sym, ℕ, List}
use Rattle.std.specs.Prelude.{string_bytes}
use Rattle.sk_insn.specs.declared.record.Record.{Record}
use Rattle.sk_show.specs.PathText.{TellsWhy}
use Rattle.sk_document.specs.Deciding.{pair_of}
use Rattle.sk_ask.specs.declared.printing.Printing.{Printing}
use Rattle.sk_ask.specs.Deciding.{decision_lines}
use Rattle.sk_ask.specs.Whys.{IsWhyPrinted, logged_line}
use Rattle.sk_ask.proofs.why.printed.Goals as goal

pub returns-in_ok-push_logged-in-Text : goal.returns-in_ok-push_logged-in-Text
returns-in_ok-push_logged-in-Text c =
    let by = c.args.architecture in
    let chain = c.args.chain.now in
    let meant = c.args.meant.now in
    let decisions = map pair_of c.args.decisions.now in
    let path = string_bytes c.in_ok-text-in-Text.text in
    let told = subst (λ (call : Record). TellsWhy by chain call path) c.record-call.ensures.record c.in_ok-text-in-Text.ensures.told in
    let text =
    ap (λ (bytes : _). bytes.items) c.into_bytes.ensures.value
    ∙ c.in_ok-push_logged-in-Text.ensures.pushed
    ∙ ap (λ (text : List ℕ). text ++ logged_line c.logged.result) c.in_ok-push_decisions-in-Text.ensures.text
    ∙ ap (λ logged. path ++ decision_lines decisions ++ logged_line logged) c.logged.ensures.logged
    in
    record { printed = subst (λ (it : Printing). IsWhyPrinted it by chain meant decisions c.into_bytes.result.items) (sym c.in-Text.is) (path, told, text) }
