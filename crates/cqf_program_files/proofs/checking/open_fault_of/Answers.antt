use Rattle.std.proofs.Common.{◌≡◌, ◌∙◌, IfOk, None, Some, ap, map, option_map, subst, sym, take}
use Rattle.std.proofs.lemmas.List.{take-map}
use Rattle.toml.specs.View.{table_view}
use Rattle.cqf_program_files.specs.Opening.{network_texts, open_refusal}
use Rattle.cqf_program_files.specs.Files.{files_fault_line, tables_of}
use Rattle.cqf_program_files.proofs.Firsts.{open_at, open_nowhere}
use Rattle.cqf_program_files.proofs.checking.open_fault_of.Goals as goal

pub returns-in-Some : goal.returns-in-Some
returns-in-Some c =
    let names = map (λ name. name.now) c.args.names.now in
    let texts = map (λ text. text.now) c.args.texts.now in
    let front = map (λ text. text.now) (take c.in_ok-count.count c.args.texts.now) in
    let tables = map table_view c.in-Some.tables.items in
    let first : front ≡ network_texts names texts =
    sym (take-map (λ text. text.now) c.in_ok-count.count c.args.texts.now) ∙ ap (λ n. take n texts) c.in_ok-count.ensures.value in
    let at : Some tables ≡ tables_of front = ap (option_map (λ tables. map table_view tables.items)) (sym c.in-Some.is) ∙ c.in_ok-tables.ensures in
    let same : open_refusal (map table_view c.as_slice.result.now) ≡ open_refusal tables =
    ap (λ items. open_refusal (map table_view items)) c.as_slice.ensures.value in
    subst (λ line. IfOk c.open_fault.result (λ found. option_map files_fault_line found ≡ line)) (same ∙ open_at names texts front tables first at)
    c.open_fault.ensures

pub returns-in-None : goal.returns-in-None
returns-in-None c =
    let names = map (λ name. name.now) c.args.names.now in
    let texts = map (λ text. text.now) c.args.texts.now in
    let front = map (λ text. text.now) (take c.in_ok-count.count c.args.texts.now) in
    let first : front ≡ network_texts names texts =
    sym (take-map (λ text. text.now) c.in_ok-count.count c.args.texts.now) ∙ ap (λ n. take n texts) c.in_ok-count.ensures.value in
    let at : None ≡ tables_of front = ap (option_map (λ tables. map table_view tables.items)) (sym c.in-None.is) ∙ c.in_ok-tables.ensures in
    open_nowhere names texts front first at
