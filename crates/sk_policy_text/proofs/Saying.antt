-- Sentences of words, one by one.
use Rattle.std.proofs.Common.{ℕ, List, [], ◌∷◌, ◌++◌, sym, ap, ◌∙◌, subst, arith, append_assoc}
use Rattle.std.proofs.lemmas.List.{append-nil}
use Rattle.sk_policy_text.specs.declared.stated.Stated.{Stated}
use Rattle.sk_policy_text.specs.Words.{Word}
use Rattle.sk_policy_text.specs.PolicyMade.{AreSaid, IsReadAs, reads_on, first_line, first_words, words_behind, IsImageOf, IsTooLong, IsFilterOf, IsRefused}
use Rattle.sk_policy_text.specs.PolicyOf.{IsPolicyOf}
use Rattle.sk_policy_text.specs.declared.refusal.Refusal.{Refusal}
use Rattle.sk_policy_text.specs.declared.refusal.Refusal.TheVariants as refusal
use Rattle.sk_filter.specs.Meaning.{meaning_of}
use Rattle.sk_profile.specs.Means.{Gives}
use Rattle.sk_policy.specs.declared.policy.Policy.{Policy}
use Rattle.sk_policy.specs.Policies.{said_by}

-- one more
pub said_more : (above text : List Stated) (words left : List Word) (it : Stated) → AreSaid above words text left
    → IsReadAs (reads_on (above ++ text)) (first_line left) (first_words left) it → AreSaid above words (text ++ it ∷ []) (words_behind left)
said_more above [] words left it are read =
    let on = subst (λ above. IsReadAs (reads_on above) (first_line left) (first_words left) it) (append-nil above) read in
    (subst (λ words. IsReadAs (reads_on above) (first_line words) (first_words words) it) (sym are) on, ap words_behind are)
said_more above (first ∷ text) words left it are read = (
  are.0,
  said_more (above ++ first ∷ []) text (words_behind words) left it are.1
      (subst (λ above. IsReadAs (reads_on above) (first_line left) (first_words left) it) (sym (append_assoc above (first ∷ []) text)) read),
)

-- a policy's image is that of its text
pub filter_of : (text : List Stated) (policy : Policy) (image : List ℕ) → IsPolicyOf text policy → IsImageOf policy image → IsFilterOf text image
filter_of text policy image is made = record {
  right = is.right;
  once = is.once;
  insns = made.insns;
  written = made.written;
  valid = made.valid;
  means = λ call whole on. record {
    value = said_by policy call;
    says = is.says call whole;
    gives = made.means call whole (on ∙ sym is.audit);
  };
  others = λ call fits other. subst (λ value. Gives value (meaning_of made.insns call)) is.others (made.others call fits (λ same. other (same ∙ is.audit)));
}

pub refused_of : (text : List Stated) (policy : Policy) (why : Refusal) → IsPolicyOf text policy → IsTooLong policy why → IsRefused text why
refused_of text policy refusal.TooLong is long = (is.right, is.once, is.named, omega (arith, long, is.size))
refused_of text policy refusal.Memory is long = tt
refused_of text policy (refusal.Policy why) is long = absurd long
refused_of text policy (refusal.Expectation line value) is long = absurd long
refused_of text policy (refusal.Sentence by line why) is long = absurd long
