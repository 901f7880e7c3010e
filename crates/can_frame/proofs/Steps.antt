-- The steps of a reader within the stuffed region.
use Rattle.std.proofs.Common.{◌≡◌, ◌⊎◌, inl, inr, ℕ, zero, suc, ◌+◌, ◌*◌, ◌≤◌, ◌<◌, ◌^◌, ◌==◌, Bool, true, false, not}
use Rattle.std.proofs.Common.{List, [], ◌∷◌, ◌++◌, length, take, drop, reverse, get_or, refl, sym, ap, subst, ◌∙◌, cond}
use Rattle.std.proofs.Common.{arith, length-append}
use Rattle.std.proofs.lemmas.List.{reverse-append, reverse-reverse, append-nil, get_or_append_left, take_at}
use Rattle.std.proofs.lemmas.List.{length-drop, drop_all}
use Rattle.can_frame.specs.Frames.{FrameValue}
use Rattle.can_frame.specs.Fields.{Unchecked, fields}
use Rattle.can_frame.specs.Crc.{IsCrc}
use Rattle.can_frame.specs.Stuffing.{five_equal, newest, IsStuffed, unstuffed}
use Rattle.can_frame.specs.Fronts.{IsRegion, front_tail, BeginsRough}
use Rattle.can_frame.specs.FieldReading.{number_at, ide, rtr_at, code_at, base_at, bytes_length, at_most_eight}
use Rattle.can_frame.specs.FieldReading.{fields_length, length_by, frame_at, digit}
use Rattle.std.proofs.lemmas.Bool.Decides.{leb_tells, eqb_tells}
use Rattle.can_frame.specs.Levels.{levels}
use Rattle.can_frame.specs.declared.step.FaultKind.TheVariants.{Stuff, Form}
use Rattle.can_frame.specs.Answers.{IsBody, FaultAnswers}
use Rattle.can_frame.specs.Reading.{Inside, InTail, Judges}
use Rattle.can_frame.proofs.LevelRuns.{five-opposite}
use Rattle.can_frame.proofs.Stuffed.{one_more, no_sixth, stuff_bit}
use Rattle.can_frame.proofs.Numbers.{head_same, tail_same, peel, number-bound, levels-injective}
use Rattle.can_frame.proofs.OneCheck.{one_crc}
use Rattle.can_frame.proofs.OneStuffing.{IsStuffed-older, grows}
use Rattle.can_frame.proofs.FieldTexts.{text-is, length-is}
use Rattle.can_frame.proofs.Regions.{completes, no_region}

pub inside_none : Inside [] []
unfolding IsStuffed unstuffed
inside_none = record { stuffed = tt; stands = refl; start = refl; unfinished = inl (omega arith) }

-- the test of the CRC
pub judge : (u : List Bool) (n k : ℕ) → length u ≡ fields_length u + 15 → n < 2 ^ 15 →
    IsCrc (take (fields_length u) u) (levels 15 n) → k ≡ number_at u (fields_length u) 15 →
    Judges (n == k) u
judge u n k h fits crc e =
    let l = fields_length u in
    let check : drop l u ≡ levels 15 k =
    peel u l 15 (omega (arith, h)) ∙ ap (λ t. levels 15 (number_at u l 15) ++ t)
    (drop_all (l + 15) u (omega (arith, h)))
    ∙ append-nil (levels 15 (number_at u l 15)) ∙ ap (levels 15) (sym e) in
    elim (eqb_tells n k) [
      | inl is ↦ record {
        is_right = λ t. subst (IsCrc (take l u)) (ap (levels 15) is.1 ∙ sym check) crc;
        is_wrong = λ f. absurd (cc (f, is.0));
      }
      | inr other ↦ record {
        is_right = λ t. absurd (cc (t, other.0));
        is_wrong = λ f c. other.1 (levels-injective 15 n k fits (omega (arith, e, number-bound u l 15))
            (one_crc (take l u) (levels 15 n) (drop l u) crc c ∙ check));
      }
    ]

number-more : (u z : List Bool) (s w : ℕ) → s + w ≤ length u → number_at (u ++ z) s w ≡ number_at u s w
unfolding number_at
number-more u z s zero h = refl
number-more u z s (suc w) h =
    ap (λ n. n * 2 + digit (get_or (u ++ z) (s + w) false)) (number-more u z s w (omega (arith, h)))
    ∙ ap (λ x. number_at u s w * 2 + digit x) (get_or_append_left u z false (s + w) (omega (arith, h)))

length-more-by : (b : Bool) (u z : List Bool) → base_at b ≤ length u → length_by b (u ++ z) ≡ length_by b u
length-more-by true u z h =
    ap (λ r. 39 + 8 * bytes_length r (at_most_eight (code_at true (u ++ z))))
    (get_or_append_left u z false 32 (omega (arith, h)))
    ∙ ap (λ c. 39 + 8 * bytes_length (rtr_at true u) (at_most_eight c)) (number-more u z 35 4 (omega (arith, h)))
length-more-by false u z h =
    ap (λ r. 19 + 8 * bytes_length r (at_most_eight (code_at false (u ++ z))))
    (get_or_append_left u z false 12 (omega (arith, h)))
    ∙ ap (λ c. 19 + 8 * bytes_length (rtr_at false u) (at_most_eight c)) (number-more u z 15 4 (omega (arith, h)))

base_least : (b : Bool) → 19 ≤ base_at b
base_least true = omega arith
base_least false = omega arith

-- one more level does not go past the fifteen levels
grow : (u : List Bool) (x : Bool) → length u < fields_length u + 15 →
    length (u ++ x ∷ []) ≤ fields_length (u ++ x ∷ []) + 15
grow u x h =
    let p = u ++ x ∷ [] in
    let long : length p ≡ length u + 1 = length-append u (x ∷ []) in
    elim (leb_tells 14 (length u)) [
      | inl known ↦
          let same : ide p ≡ ide u = get_or_append_left u (x ∷ []) false 13 (omega (arith, known.1)) in
          elim (leb_tells (base_at (ide u)) (length u)) [
            | inl full ↦
                let e : fields_length p ≡ fields_length u =
                ap (λ b. length_by b p) same ∙ length-more-by (ide u) u (x ∷ []) full.1 in
                omega (arith, long, e, h)
            | inr part ↦
                let e : base_at (ide p) ≡ base_at (ide u) = ap base_at same in
                omega (arith, long, e, part.1)
          ]
      | inr short ↦ omega (arith, long, short.1, base_least (ide p))
    ]

-- a text that is whole with one more level
pub complete_next : (u : List Bool) (x : Bool) → length (u ++ x ∷ []) ≡ fields_length (u ++ x ∷ []) + 15 →
    length u + 1 ≡ fields_length u + 15
complete_next u x h =
    let p = u ++ x ∷ [] in
    let long : length p ≡ length u + 1 = length-append u (x ∷ []) in
    let least = base_least (ide p) in
    let same : ide p ≡ ide u = get_or_append_left u (x ∷ []) false 13 (omega (arith, long, h, least)) in
    let base : base_at (ide p) ≡ base_at (ide u) = ap base_at same in
    let e : fields_length p ≡ fields_length u =
    ap (λ b. length_by b p) same ∙ length-more-by (ide u) u (x ∷ []) (omega (arith, long, h, base)) in
    omega (arith, long, e, h)

-- what holds of a text in the form of a stuffed one, and of the text that it stands for
pub record Kept (text u : List Bool) : Type 0 where
  pub stuffed : IsStuffed (reverse text)
  pub stands : unstuffed (reverse text) ≡ reverse u
  pub start : get_or u 0 false ≡ false
  pub few : length u ≤ fields_length u + 15

start_more : (u : List Bool) (x : Bool) → get_or u 0 false ≡ false → (u ≡ [] → x ≡ false) →
    get_or (u ++ x ∷ []) 0 false ≡ false
start_more [] x h k = k refl
start_more (y ∷ u) x h k = h

pub next_reverse : (text : List Bool) (level : Bool) → reverse (text ++ level ∷ []) ≡ level ∷ reverse text
next_reverse text level = reverse-append text (level ∷ [])

-- behind a level of the text
pub record AfterData (u text : List Bool) (level : Bool) : Type 0 where
  pub kept : Kept (text ++ level ∷ []) (u ++ level ∷ [])
  pub short : length u < fields_length u + 15

pub after_data : (u text : List Bool) (level : Bool) → Inside text u → five_equal (reverse text) ≡ false →
    (u ≡ [] → level ≡ false) → AfterData u text level
after_data u text level h plain sof =
    let r = reverse text in
    let e = next_reverse text level in
    let step = one_more r level plain h.stuffed in
    let short : length u < fields_length u + 15 = elim h.unfinished [
      | inl s ↦ s
      | inr full ↦ absurd (cc (plain, full.1))
    ] in
    record {
      kept = record {
        stuffed = subst IsStuffed (sym e) step.0;
        stands = ap unstuffed e ∙ step.1 ∙ ap (λ t. level ∷ t) h.stands ∙ sym (reverse-append u (level ∷ []));
        start = start_more u level h.start sof;
        few = grow u level short;
      };
      short = short;
    }

-- behind a stuff bit
pub record AfterStuff (u text : List Bool) (level : Bool) : Type 0 where
  pub kept : Kept (text ++ level ∷ []) u
  pub ended : five_equal (reverse (text ++ level ∷ [])) ≡ false

opposite_ended : (r : List Bool) (x : Bool) → five_equal r ≡ true → x ≡ not (newest r) → five_equal (x ∷ r) ≡ false
opposite_ended [] x h e = absurd (cc h)
opposite_ended (y ∷ r) x h e = ap (λ z. five_equal (z ∷ y ∷ r)) e ∙ five-opposite y r

pub after_stuff : (u text : List Bool) (level : Bool) → Inside text u → five_equal (reverse text) ≡ true →
    level ≡ not (newest (reverse text)) → AfterStuff u text level
after_stuff u text level h five opposite =
    let r = reverse text in
    let e = next_reverse text level in
    let step = stuff_bit r level five h.stuffed opposite in
    let few : length u ≤ fields_length u + 15 =
    elim h.unfinished [ inl s ↦ omega (arith, s) | inr full ↦ omega (arith, full.0) ] in
    record {
      kept = record {
        stuffed = subst IsStuffed (sym e) step.0;
        stands = ap unstuffed e ∙ step.1 ∙ h.stands;
        start = h.start;
        few = few;
      };
      ended = ap five_equal e ∙ opposite_ended r level five opposite;
    }

-- a whole region
pub body_tail : (text u : List Bool) (right : Bool) → Kept text u → length u ≡ fields_length u + 15 →
    five_equal (reverse text) ≡ false → Judges right u →
    IsBody (frame_at u) right text × InTail (frame_at u) right 0 text
body_tail text u right h full ended j =
    let b = text-is u h.start (omega (arith, full)) in
    let n = fields_length u in
    let fs = fields (frame_at u) b.x in
    let ln : n ≡ length fs = ap fields_length b.is ∙ length-is (frame_at u) b.x (drop n u) b.frame b.over in
    let front : take n u ≡ fs = ap (take n) b.is ∙ take_at fs (drop n u) n (sym ln) in
    let region : IsRegion (frame_at u) b.x (drop n u) text = record {
      frame = b.frame;
      over = b.over;
      fifteen = omega (arith, length-drop n u, full);
      stuffs = record { opposite = h.stuffed; ended = ended; rest = h.stands ∙ ap reverse b.is };
    } in
    let yes_right : right ≡ true → IsCrc fs (drop n u) = λ r. subst (λ t. IsCrc t (drop n u)) front (j.is_right r) in
    let wrong : right ≡ false → IsCrc fs (drop n u) → ⊥ =
    λ r c. j.is_wrong r (subst (λ t. IsCrc t (drop n u)) (sym front) c) in (
      record { x = b.x; check = drop n u; is_region = region; is_right = yes_right; is_wrong = wrong },
      record {
        x = b.x;
        check = drop n u;
        region = text;
        ack = false;
        is_region = region;
        is_right = yes_right;
        is_wrong = wrong;
        few = omega arith;
        whole = sym (append-nil text);
        good = λ r k. refl;
        bad = λ r. omega arith;
      },
    )

-- not yet a whole region
pub still_inside : (text u : List Bool) → Kept text u →
    (length u ≡ fields_length u + 15 → five_equal (reverse text) ≡ true) → Inside text u
still_inside text u h other = record {
  stuffed = h.stuffed;
  stands = h.stands;
  start = h.start;
  unfinished = elim (leb_tells (fields_length u + 15) (length u)) [
    | inl full ↦ let e : length u ≡ fields_length u + 15 = omega (arith, full.1, h.few) in inr (e, other e)
    | inr part ↦ inl part.1
  ];
}

compare_end : (v t w s : List Bool) (l : Bool) → v ++ t ≡ (w ++ l ∷ []) ++ s →
    ((m : List Bool) × (v ≡ (w ++ l ∷ []) ++ m)) ⊎ ((m : List Bool) × (w ≡ v ++ m))
compare_end [] t w s l e = inr (w, refl)
compare_end (x ∷ v) t [] s l e = inl (v, ap (λ z. z ∷ v) (head_same x l (v ++ t) s e))
compare_end (x ∷ v) t (y ∷ w) s l e =
    let same = head_same x y (v ++ t) ((w ++ l ∷ []) ++ s) e in
    elim (compare_end v t w s l (tail_same x y (v ++ t) ((w ++ l ∷ []) ++ s) e)) [
      | inl a ↦ inl (a.0, ap (λ z. z ∷ v) same ∙ ap (λ z. y ∷ z) a.1)
      | inr a ↦ inr (a.0, ap (λ z. z ∷ w) (sym same) ∙ ap (λ z. x ∷ z) a.1)
    ]

-- a rough front that goes on with this level has it in its region
record GoesIn (text : List Bool) (level : Bool) : Type 0 where
  f : FrameValue
  x : Unchecked
  c : List Bool
  m : List Bool
  is : IsRegion f x c ((text ++ level ∷ []) ++ m)

goes_in : (text u : List Bool) (level : Bool) → Inside text u → BeginsRough (text ++ level ∷ []) → GoesIn text level
goes_in text u level h b =
    let r = b.is_rough in
    elim (compare_end r.region (front_tail r.ack) text b.rest level (sym r.whole)) [
      | inl a ↦ record {
        f = b.frame;
        x = r.x;
        c = r.check;
        m = a.0;
        is = subst (IsRegion b.frame r.x r.check) a.1 r.is_region;
      }
      | inr a ↦ absurd (no_region b.frame r.x r.check r.region a.0 text u h r.is_region a.1)
    ]

region_reverse : (text m : List Bool) (level : Bool) → reverse ((text ++ level ∷ []) ++ m) ≡ reverse m
    ++ (level ∷ reverse text)
region_reverse text m level = reverse-append (text ++ level ∷ []) m ∙ ap (λ t. reverse m ++ t) (next_reverse text level)

not_itself : (x y : Bool) → x ≡ y → x ≡ not y → ⊥
not_itself true true h k = cc k
not_itself true false h k = cc h
not_itself false true h k = cc h
not_itself false false h k = cc k

pub stuff_fault : (text u : List Bool) (level : Bool) → Inside text u → five_equal (reverse text) ≡ true →
    level ≡ newest (reverse text) → FaultAnswers Stuff text level
stuff_fault text u level h five same =
    let r = reverse text in (
      completes text u h,
      five,
      same,
      λ b. let g = goes_in text u level h b in
          not_itself level (newest r) same
          (no_sixth r level five (IsStuffed-older (reverse g.m) (level ∷ r)
          (subst IsStuffed (region_reverse text g.m level) g.is.stuffs.opposite))),
    )

nothing_case : (x : Bool) (r : List Bool) (b : Bool) → five_equal r ≡ b → unstuffed (x ∷ r) ≡ [] →
    (unstuffed r ≡ [] → r ≡ []) → ⊥
unfolding unstuffed
nothing_case x r true e h ih =
    let none = ih (sym (ap (λ b. cond b (unstuffed r) (x ∷ unstuffed r)) e) ∙ h) in
    let is : five_equal [] ≡ true = ap five_equal (sym none) ∙ e in
    cc
nothing_case x r false e h ih =
    let is : x ∷ unstuffed r ≡ [] = sym (ap (λ b. cond b (unstuffed r) (x ∷ unstuffed r)) e) ∙ h in
    cc

nothing : (r : List Bool) → unstuffed r ≡ [] → r ≡ []
nothing [] h = refl
nothing (x ∷ r) h = absurd (nothing_case x r (five_equal r) refl h (nothing r))

one_level_is : (x : Bool) → unstuffed (x ∷ []) ≡ x ∷ []
unfolding unstuffed
one_level_is x = refl

pub sof_fault : (text u : List Bool) (level : Bool) → Inside text u → u ≡ [] → level ≡ true →
    FaultAnswers Form text level
sof_fault text u level h none e =
    let r = reverse text in
    let empty : r ≡ [] = nothing r (h.stands ∙ ap reverse none) in (
      (λ b.
          let g = goes_in text u level h b in
          let t = fields g.f g.x ++ g.c in
          let grown = grows (reverse g.m) (level ∷ []) in
          let back : reverse t ≡ grown.by ++ level ∷ [] =
          sym g.is.stuffs.rest ∙ ap unstuffed (region_reverse text g.m level
          ∙ ap (λ s. reverse g.m ++ (level ∷ s)) empty) ∙ grown.is ∙ ap (λ s. grown.by ++ s) (one_level_is level) in
          let first : t ≡ level ∷ reverse grown.by =
          sym (reverse-reverse t) ∙ ap reverse back ∙ reverse-append grown.by (level ∷ []) in
          let clash : false ≡ true = head_same _ _ _ _ first ∙ e in
          cc),
      λ b five. let no : five_equal [] ≡ true = ap five_equal (sym empty) ∙ five in cc,
    )
