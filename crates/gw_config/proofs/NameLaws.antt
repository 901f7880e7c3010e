-- Laws of names.
use Rattle.std.proofs.Common.{◌≡◌, ℕ, suc, ◌+◌, ◌<◌, ◌≤◌, List, ◌++◌, ◌∷◌, length, drop, get_or, false, ◌||◌, sym, ap}
use Rattle.std.proofs.Common.{◌∙◌, drop-cons, add-one}
use Rattle.std.proofs.lemmas.List.{drop_all}
use Rattle.std.proofs.lemmas.List.Folds.{list_any-append}
use Rattle.std.specs.Str.{bytes_eq}
use Rattle.gw_fields.specs.Names.{is_among}
use Rattle.gw_config.specs.Talkers.{talker_names}
use Rattle.gw_config.specs.Segments.{SegmentValue, all_talker_names}

pub among-append : (name : List ℕ) (xs ys : List (List ℕ)) → is_among name (xs ++ ys)
    ≡ (is_among name xs || is_among name ys)
among-append name xs ys = list_any-append (bytes_eq name) xs ys

-- the talkers of the first segment of those that are left
pub talkers-step : (name : List ℕ) (segments : List SegmentValue) (i : ℕ) (s : SegmentValue) → i < length segments →
    s ≡ get_or segments i s →
    is_among name (all_talker_names (drop i segments))
    ≡ (is_among name (talker_names s.talkers) || is_among name (all_talker_names (drop (i + 1) segments)))
talkers-step name segments i s lt is =
    ap (λ ss. is_among name (all_talker_names ss)) (drop-cons segments i s lt
    ∙ ap (λ t. t ∷ drop (suc i) segments) (sym is) ∙ ap (λ n. s ∷ drop n segments) (sym (add-one i)))
    ∙ among-append name (talker_names s.talkers) (all_talker_names (drop (i + 1) segments))

pub talkers-end : (name : List ℕ) (segments : List SegmentValue) (i : ℕ) → length segments ≤ i →
    is_among name (all_talker_names (drop i segments)) ≡ false
talkers-end name segments i beyond = ap (λ ss. is_among name (all_talker_names ss)) (drop_all i segments beyond)
