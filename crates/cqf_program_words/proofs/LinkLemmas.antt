-- Words that name links.
use Rattle.std.proofs.Common.{◌≡◌, ◌∙◌, ◌<◌, ℕ, List, [], Option, Some, None, Bor, ap, arith, get_or, length, map, sym}
use Rattle.std.proofs.lemmas.List.{get_or-map, length-map}
use Rattle.clap.specs.Words.{Text}
use Rattle.cqf_program_words.specs.declared.links.LinkName.{LinkName}
use Rattle.cqf_program_words.specs.Links.{AreLinks, link_in}

-- if one of the words names no link, then together they name none
pub no_links : (words : List (Bor Text)) (k : ℕ) (first : Bor Text) → k < length words → link_in (get_or words k first).now ≡ None →
    (links : List LinkName) → ¬ AreLinks (map (λ word. word.now) words) links
no_links words k first inside none links are =
    let none_at : LinkName = record { from = []; to = [] } in
    let texts : List Text = map (λ word. word.now) words in
    let some : LinkName → Option LinkName = λ link. Some link in
    let same_length : length words ≡ length links =
    sym (length-map words (λ (word : Bor Text). word.now)) ∙ sym (length-map texts link_in) ∙ ap length are ∙ length-map links some in
    let text : get_or texts k [] ≡ (get_or words k first).now = get_or-map (λ (word : Bor Text). word.now) words k first [] inside in
    let here : get_or (map link_in texts) k None ≡ link_in (get_or texts k []) =
    get_or-map link_in texts k [] None (omega (arith, inside, length-map words (λ (word : Bor Text). word.now))) in
    let there : get_or (map some links) k None ≡ Some (get_or links k none_at) = get_or-map some links k none_at None (omega (arith, inside, same_length)) in
    let both : None ≡ Some (get_or links k none_at) =
    sym none ∙ ap link_in (sym text) ∙ sym here ∙ ap (λ (l : List (Option LinkName)). get_or l k None) are ∙ there in
    absurd (cc)
