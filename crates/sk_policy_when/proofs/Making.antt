-- The filter that is made of the text of rows answers as the filters do.
use Rattle.std.proofs.Common.{◌≡◌, ◌∙◌, ap, sym, refl, subst, ℕ, List, [], ◌∷◌}
use Rattle.std.specs.List.{All}
use Rattle.std.proofs.lemmas.List.Elements.{All-head}
use Rattle.sk_insn.specs.declared.record.Record.{Record}
use Rattle.sk_insn.specs.Record.{IsNative}
use Rattle.sk_filter.specs.Meaning.{meaning_of}
use Rattle.sk_filter.specs.Verdict.{verdict_of}
use Rattle.sk_profile.specs.Means.{Gives}
use Rattle.sk_names.specs.declared.architecture.Architecture.TheVariants as architecture
use Rattle.sk_names.specs.Architectures.{audit_of}
use Rattle.sk_when.specs.Naming.{names_of}
use Rattle.sk_when.specs.WhenText.{when_text}
use Rattle.sk_policy_text.specs.declared.stated.Stated.{Stated}
use Rattle.sk_policy_text.specs.Words.{words_of_text}
use Rattle.sk_policy_text.specs.Sentences.{Said}
use Rattle.sk_policy_text.specs.Views.{said}
use Rattle.sk_policy_text.specs.PolicyMade.{reads_on}
use Rattle.sk_policy_text.proofs.Singling.{say_one}
use Rattle.sk_policy_when.specs.Again.{as_native}
use Rattle.sk_policy_when.specs.Texts.{TextsMakeFilters, together}
use Rattle.sk_policy_when.proofs.Texting.{texts_come_back}
use Rattle.sk_policy_when.proofs.Finding.{IsRow, no_arch, rows_rows, saids, same_said}
use Rattle.sk_policy_when.proofs.Verdicts.{texts_say_verdicts}

-- no sentence says of another architecture
read_native : (text : List Stated) (all : List Said) → saids text ≡ all → All IsRow all → reads_on text ≡ architecture.X86_64
read_native [] all is rows = refl
read_native (first ∷ text) [] is rows = cc
read_native (first ∷ text) (it ∷ all) is rows =
    let same : said first.sentence ≡ it = cc in
    let none = no_arch first.sentence it same (All-head IsRow it all rows) in
    rw none refl

native : (call : Record) → IsNative call → as_native call ≡ call
native call is = ap (λ arch. record call { arch = arch }) (sym is)

pub texts_make_filters : TextsMakeFilters
texts_make_filters naming programs is_spent rows image told sayable made =
    let text = made.0 in
    let filter = made.3 in
    let come = texts_come_back (names_of naming architecture.X86_64) rows sayable in
    let rows_are = rows_rows rows come.said come.rows_are in
    let same = same_said [] (words_of_text (when_text (names_of naming architecture.X86_64) rows)) text (together come.said) refl made.1 come.are rows_are in
    let by = read_native text (together come.said) same rows_are in
    record {
      insns = filter.insns;
      written = filter.written;
      valid = filter.valid;
      answers = λ call whole is.
          let gets = filter.means call whole (is ∙ sym (ap audit_of by)) in
          let says = texts_say_verdicts naming programs is_spent rows text told sayable made.1 call whole in
          let one = say_one text call gets.value (verdict_of programs (as_native call)) whole filter.once gets.says says in
          subst (λ (value : ℕ). Gives value (meaning_of filter.insns call)) (one ∙ ap (verdict_of programs) (native call is)) gets.gives;
    }
