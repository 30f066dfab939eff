use Rattle.std.proofs.Common.{◌≡◌, ◌≤◌, ◌∙◌, List, [], ℕ, ap, inl, length, map, subst, Bor}
use Rattle.std.proofs.lemmas.Result.{IfErr-weaker, IfOk-weaker}
use Rattle.std.specs.List.{slice_split}
use Rattle.std.specs.Str.{IsUtf8}
use Rattle.cqf_program_engine.specs.Run.{HasWords, is_space, most_line, words_of}
use Rattle.cqf_program_words.specs.Shown.{ShowsLine}
use Rattle.cqf_program_words.specs.Words.{EndsWords, limits_of}
use Rattle.cqf_program_engine.proofs.RunLemmas.{Begins-weaker, HasCause-by_line, HasCause-by_line_end, IsDone-by_line, IsThreadedRun-by_line, IsWithin-means, WritesPlainly-of}
use Rattle.cqf_program_engine.proofs.runs.run_line.Goals as goal

pub returns-in-Err-clause-err : goal.returns-in-Err-clause-err
returns-in-Err-clause-err g c =
    let line = c.in-Ok.ensures.cases.0 ∙ c.split_first_line.ensures.line in
    let texts : List (Bor (List ℕ)) → List (List ℕ) = map (λ word. word.now) in
    let same : map (λ word. word.now) c.as_slice.result.now ≡ words_of [] c.args.bytes.now =
    ap texts c.as_slice.ensures.value ∙ c.in-Ok-split_words.ensures ∙ ap (slice_split is_space) line in
    HasCause-by_line c.args.bytes.now c.in-Err.stop c.requires
    (record { text = subst IsUtf8 c.split_first_line.ensures.line c.in-Ok.ensures.cases.1; short = subst (λ (text : List ℕ). length text ≤ most_line) line c.if-line-gt-MOST_LINE.false })
    (subst (λ (words : List (List ℕ)). EndsWords words c.in-Err.stop) same c.in-Err.ensures.err)
    (subst (λ (text : List ℕ). ShowsLine text c.in-Err.stop) line c.in-Err.ensures.shows)
    (WritesPlainly-of c.in-Err.stop line same c.in-Err.ensures.reports)

pub output_of-requires-after_bounds : goal.output_of-requires-after_bounds
output_of-requires-after_bounds g c = λ _ _. IsWithin-means (map (λ word. word.now) c.as_slice.result.now) c.in-Ok-read_line.job c.in-Ok-read_line.ensures.ok

pub returns-clause-ok : goal.returns-clause-ok
returns-clause-ok g c =
    let line = c.in-Ok.ensures.cases.0 ∙ c.split_first_line.ensures.line in
    let texts : List (Bor (List ℕ)) → List (List ℕ) = map (λ word. word.now) in
    let split = c.in-Ok-split_words.ensures ∙ ap (slice_split is_space) line in
    let same : map (λ word. word.now) c.as_slice.result.now ≡ words_of [] c.args.bytes.now = ap texts c.as_slice.ensures.value ∙ split in
    let again : map (λ word. word.now) c.as_slice-2.result.now ≡ words_of [] c.args.bytes.now = ap texts c.as_slice-2.ensures.value ∙ split in
    let words : HasWords c.args.bytes.now = record { text = subst IsUtf8 c.split_first_line.ensures.line c.in-Ok.ensures.cases.1; short = subst (λ (text : List ℕ). length text ≤ most_line) line c.if-line-gt-MOST_LINE.false } in
    IfOk-weaker c.output_of.result _ _
    (λ begun reported. Begins-weaker begun
    (λ text status is. IsDone-by_line c.args.bytes.now _ text status (map (λ word. word.now) c.as_slice.result.now) _ c.in-Ok-read_line.job c.requires
    words same (c.limits_of.ensures ∙ ap limits_of again) c.split_first_line.ensures.rest c.in-Ok-read_line.ensures.ok is)
    (λ threaded is. IsThreadedRun-by_line c.args.bytes.now (map (λ word. word.now) c.as_slice.result.now) c.limits_of.result c.in-Ok-read_line.job threaded
    c.requires words same (c.limits_of.ensures ∙ ap limits_of again) c.in-Ok-read_line.ensures.ok is)
    reported)
    c.output_of.ensures.ok

pub returns-clause-err : goal.returns-clause-err
returns-clause-err g c =
    let line = c.in-Ok.ensures.cases.0 ∙ c.split_first_line.ensures.line in
    let texts : List (Bor (List ℕ)) → List (List ℕ) = map (λ word. word.now) in
    let split = c.in-Ok-split_words.ensures ∙ ap (slice_split is_space) line in
    let same : map (λ word. word.now) c.as_slice.result.now ≡ words_of [] c.args.bytes.now = ap texts c.as_slice.ensures.value ∙ split in
    let again : map (λ word. word.now) c.as_slice-2.result.now ≡ words_of [] c.args.bytes.now = ap texts c.as_slice-2.ensures.value ∙ split in
    IfErr-weaker c.output_of.result _ _
    (λ stop h. HasCause-by_line_end c.args.bytes.now _ (map (λ word. word.now) c.as_slice.result.now) _ c.in-Ok-read_line.job stop c.requires
    (record { text = subst IsUtf8 c.split_first_line.ensures.line c.in-Ok.ensures.cases.1; short = subst (λ (text : List ℕ). length text ≤ most_line) line c.if-line-gt-MOST_LINE.false })
    same (c.limits_of.ensures ∙ ap limits_of again) c.split_first_line.ensures.rest c.in-Ok-read_line.ensures.ok (inl h))
    c.output_of.ensures.err
