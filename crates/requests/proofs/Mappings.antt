-- R-8, THE MAPPING MACHINE, sentence by sentence. Under each stands the theorem that meets it; its
-- proof only cites the file that has it. To believe them, read the definitions that they name:
--
--   Value, Within, compose, identity  mappings as eight masks; 000's f • g   mappings/specs/Mappings
--   Bracketed, value_of, leaves        mappings composed in any brackets      compositions/specs/Bracketing
--   mapping_of, mapping_after r w     the mapping of the text w              mappings/specs/Mappings, Claims
--   First, Sooner                     the first text; the order of texts     mappings/specs/Claims, numbering/specs/Texts
--   profile_of r, build_of r          a profile, every field; what building answers   profile/specs/Profiles
--   keys_up_to                        the procedure that numbers              numbering/specs/Numbering
--   run_of p w, verdict_of p f         a run of a chunk, and the verdict      profile/specs/Runs
--   Takes, Machine, ManyMappings,     building accepts; the simultaneous automaton; over 512
--   RefusedExactly, RunsExactly       mappings; the numbers, one by one      profile/specs/Claims
--   AllZero; Answered cases           zeros; rules built by hand            profile/specs/Claims, Worked
--   text_of; ForeignByte               a chunk without idle marks; 13         marks/specs/Marks, calls/specs/Claims
--   Accepts, Run; automaton_of r      automata and their runs (000)          automaton/specs/Automaton, Rules
--   Filled h r ws                     a filled board with the chunks ws      fillings/specs/Filled
--   verdict_in h, answer_of            what 01 says of a list of calls        histories/specs/History
--   MayBuild .. MaySay, RunEach,      what the contracts of C's functions    requests/specs/MappingFunctions
--   ComposedTo, SameAnswer; MayJudge  allow                                  demands/specs/Functions
--   build_shown, run_shown ..         C's numbers                            c_mappings/specs/Numbers
--   text_for f                        what `profileprint` prints             profiletext/specs/ProfileText
--   right_text; last_built            the answers to lines; what is built    mapstream/specs/Texts, mapcalls/specs/Histories
--   LastBuilt                         the last build, by the list cut in two   mapcalls/specs/Last
--   line_in, reply_text               lines and replies as text              maplines/specs/Lines, mapreplies/specs/Replies
--   SaysLine, line_of; SaysMapping     a call's line; a mapping's field       maplines/specs/Claims, maptext/specs/Claims
--   mapping_text f; three_states      a mapping as text; one by hand         maptext/specs/MappingText, Worked
--   lines_A; calls_text, calls_answers  texts by hand, in bytes                profiletext/specs/Worked, mapstream/specs/Worked
--   Blocks                            a text that comes in blocks            linetexts/specs/Claims
--   list_text; list_of, skipped_lines  lists that a malformed line ends       linetexts/specs/Lists
--
-- r is any value, in which any numbers may stand, and so is a mapping. A proved function ends and
-- stays within its bounds. Assumes nothing.
-- All that they rest on stands in these files of specs/ (tests/believed):
--   base Conditions, Lists, Options, Totals; limits Limits; flags Flags; text Numerals, Writing;
--   answers Answers; masks Masks; automaton Automaton, Rules, Successor; rulecheck Checking,
--   Worked; ruleformat Format, Reader, Refusals, Worked; numbering Numbering, Texts,
--   mirror/Arrays; compositions Bracketing, Relations; mappings Claims, Mappings, Packing; keys
--   Tables; subsets Sets, mirror/Singles; delegates Alike, Claims, mirror/Classes; build
--   mirror/Building; marks Marks; walks mirror/Steps; chunks Chunks, Taking, mirror/Walks;
--   profile Claims, Profiles, Runs, Worked; board Boards; joins Joining; calls Calls, Claims,
--   Replies, mirror/Steps; executions Executions, Last; histories Claims, History; fillings
--   Filled; mapverdict Filled; fields Bytes, Claims; lines Splitting; ruletext RuleText; maptext
--   Claims, MappingText, Worked; profilefile Files; mapcalls Calls, Histories, Last; profiletext
--   ProfileText, Worked; longlines Holding; linetexts Beginnings, Claims, Feeding, Lists, Parts;
--   mapreplies Replies; maplines Answers, Claims, Lines; mapstream Texts, Worked; c_mappings
--   Claims, Numbers; demands Functions; requests MappingFunctions.
use mathlib.Core.Path.{◌≡◌, ap, refl}
use mathlib.Core.Logic.{◌↔◌, ◌⊎◌}
use mathlib.Core.Bool.{true, false}
use mathlib.Core.List.{List, [], ◌∷◌, ◌++◌, map, flatten}
use mathlib.Core.Option.{none, some}
use Prim.Native.Nat.{ℕ, ◌+◌, ◌≤◌, ◌<◌}
use lib.ListN.{length, get_or}
use contract.Lifetimes.{Lfts}
use denote.Ref.{Bor}
use Rattle.limits.specs.Limits.{most_places, most_sets, longest_chunk}
use Rattle.masks.specs.Masks.{◌∈◌}
use Rattle.profile.specs.Worked.{profiles, Answered}
use Rattle.marks.specs.Marks.{text_of}
use Rattle.automaton.specs.declared.Rule.{Rule}
use Rattle.automaton.specs.Automaton.{Run, Accepts}
use Rattle.automaton.specs.Rules.{automaton_of}
use Rattle.mappings.specs.declared.Mapping.{Mapping}
use Rattle.compositions.specs.Bracketing.{Bracketed, leaves, value_of}
use Rattle.mappings.specs.Mappings.{mapped_states, Value, Within, compose, identity}
use Rattle.mappings.specs.Claims.{Small, mapping_after, keys_of}
use Rattle.mappings.proofs.Claims as mappings
use Rattle.chunks.specs.Chunks.{foreign}
use Rattle.profile.specs.declared.Profile.{Profile}
use Rattle.profile.specs.Profiles.{build_number, accepted, profile_of, refused_build, build_by, build_of}
use Rattle.profile.specs.Runs.{run_of, verdict_of}
use Rattle.profile.specs.Claims.{Takes, ManyMappings, RefusedExactly, Machine, RunsExactly, AllZero}
use Rattle.profile.proofs.Claims as profile
use Rattle.calls.specs.Replies.{yes_with, no_with, refused}
use Rattle.calls.specs.Calls.{Call, delivers, install_number}
use Rattle.calls.specs.Claims.{ForeignByte}
use Rattle.calls.proofs.Foreign as calls_foreign
use Rattle.histories.specs.History.{rule_there, board_in, places_in, empties_in, summed_in, verdict_in, answer_of}
use Rattle.histories.specs.Claims.{judge_after}
use Rattle.fillings.specs.Filled.{Filled}
use Rattle.mapverdict.specs.Filled.{RunsAll, mappings_of}
use Rattle.mapverdict.proofs.Claims as mapverdict
use Rattle.c_mappings.specs.declared.BuildNumbers.{BuildNumbers}
use Rattle.c_mappings.specs.declared.RunNumbers.{RunNumbers}
use Rattle.c_mappings.specs.Numbers.{build_shown, run_shown, mapping_shown, verdict_shown, build_read_back, run_read_back}
use Rattle.c_mappings.specs.Claims as c_claims
use Rattle.c_mappings.proofs.Asks as asks
use Rattle.c_mappings.proofs.ReadBack as c_mappings
use Rattle.c_mappings.proofs.bellbadger_profile_build.Reads as build_reads
use Rattle.c_mappings.proofs.bellbadger_profile_run.Reads as run_reads
use Rattle.c_mappings.proofs.bellbadger_compose.Reads as compose_reads
use Rattle.c_mappings.proofs.bellbadger_profile_verdict.Reads as verdict_reads
use Rattle.maptext.specs.MappingText.{mapping_text}
use Rattle.maptext.specs.Worked.{three_states, three_text}
use Rattle.maptext.proofs.RoundTrip as maptext
use Rattle.profiletext.specs.ProfileText.{text_for, most_bytes}
use Rattle.profiletext.specs.Worked.{lines_A}
use Rattle.profiletext.proofs.Claims as profiletext
use Rattle.ruleformat.specs.Reader.{rule_of}
use Rattle.ruleformat.specs.Worked.{file_A}
use Rattle.lines.specs.Splitting.{lines_of}
use Rattle.longlines.specs.Holding.{line_begin}
use Rattle.linetexts.specs.Feeding.{State, finish_of}
use Rattle.linetexts.specs.Beginnings.{Beginning, state_of}
use Rattle.linetexts.specs.Lists.{Listed, list_of, NoneEmpty, skipped_lines}
use Rattle.linetexts.specs.Claims.{Blocks}
use Rattle.mapcalls.specs.declared.MapState.{MapState}
use Rattle.mapcalls.specs.Calls.{Call as MapCall, none_yet}
use Rattle.mapcalls.specs.Histories.{last_built}
use Rattle.mapcalls.specs.Last.{LastBuilt}
use Rattle.mapcalls.proofs.Histories as mapcalls
use Rattle.mapstream.specs.Texts.{map_room, map_lines, right_text}
use Rattle.mapstream.specs.Worked.{calls_text, calls_answers}
use Rattle.mapstream.proofs.Claimed as mapstream
use Rattle.maplines.specs.Lines.{line_in}
use Rattle.maplines.specs.Claims.{Fits, line_of, SaysLine}
use Rattle.maplines.proofs.Exact as maplines
use Rattle.answers.specs.Answers.{malformed_text}
use Rattle.capi.specs.declared.VerdictNumbers.{VerdictNumbers}
use Rattle.demands.specs.Functions.{MayJudge}
use Rattle.requests.specs.MappingFunctions.{MayBuild, MayRun, MayCompose, MaySay, RunEach, ComposedTo, SameAnswer}
use Rattle.requests.proofs.MappingFunctions as functions

-- The limits that are named below:
pub limits : (mapped_states ≡ 8) × (most_sets ≡ 512) × (longest_chunk ≡ 65536) × (most_places ≡ 64)
limits = (refl, refl, refl, refl)

-- ---- THE PROFILE
-- "Add the simultaneous automaton of document 000 as a profile: its states are mappings from each state
-- to a set, from the identity, expanded in number order, symbols ascending, first found numbered first."
-- It has the mappings of texts, each with one number, the identity first, in the order of their first
-- texts, and from each by each symbol the number of the next; every field is fixed:
pub simultaneous : (r : Rule) → Takes r → Machine r (profile_of r)
simultaneous = (profile.claims).machine

-- a text's mapping has, from each state, the states to which runs over the text lead.
pub leads : (r : Rule) → Small r → (w : List ℕ) (q p : ℕ) → q < r.n → p ∈ get_or (mapping_after r w) q 0 ↔ Run (automaton_of r) q w p
leads = (mappings.claims).runs

-- "It is built from a checked rule of R-3." Any value is taken: building accepts it exactly where it
-- passes the check, has at most eight states and no more than 512 mappings.
pub takes : (r : Rule) → Takes r ↔ (Small r × (ManyMappings r → ⊥))
takes = (profile.claims).takes

pub built : (r : Rule) → Takes r → build_of r ≡ record { reply = accepted (length (keys_of r)); profile = profile_of r }
built r e = ap (λ o. build_by o r) e

-- "It refuses with 33 a rule of more than 8 states, then with 34 one with more than 512 mappings", after
-- 3, 4, 6 and 8; a refusal carries zeros.
pub refusals : (r : Rule) → RefusedExactly r
refusals = (profile.claims).refused

pub as_installed : (r : Rule) (x : ℕ) → x ≤ 8 → (build_number r ≡ some x) ↔ (install_number r ≡ some x)
as_installed = (mapverdict.claims).as_installed

pub zeros : (r : Rule) (x : ℕ) → build_number r ≡ some x → build_of r ≡ refused_build x
zeros r x e = ap (λ o. build_by o r) e

-- field by field:
pub each_zero : (r : Rule) (x : ℕ) → build_number r ≡ some x → AllZero (build_of r).profile
each_zero = (profile.claims).zeros

-- Rules built by hand, A and B of document 01 among them, have the replies and the mappings that
-- stand beside them:
pub by_hand : Answered profiles
by_hand = (profile.claims).answered

-- ---- A CHUNK
-- "A chunk is then one run that answers its mapping by value: eight 8-bit masks, 0 from state n on." It
-- is that of the chunk's text, which is without its idle marks: for each state the successor of its
-- singleton by the text.
pub ran : (r : Rule) → Takes r → (w : List ℕ) → (run_of (profile_of r) w).refusal ≡ none → (run_of (profile_of r) w).masks ≡ mapping_after r (text_of w)
ran = (profile.claims).ran

pub zero_from_n : (r : Rule) → Small r → (w : List ℕ) → Within r.n (mapping_after r w)
zero_from_n = (mappings.claims).within

-- "Chunks meet 12, 13 and idle marks as on a board."
pub chunk_refusals : (p : Profile) (w : List ℕ) → RunsExactly p w
chunk_refusals = (profile.claims).runs

pub foreign_byte : (w : List ℕ) (k : ℕ) → (foreign (text_of w) k ≡ true) ↔ ForeignByte w k
foreign_byte = calls_foreign.foreign_exactly

pub as_delivered : (h : List Call) (r : Rule) → rule_there h ≡ some r → (p v : ℕ) → p < places_in h → (w : List ℕ)
    → (x : ℕ) → (x ≡ 12) ⊎ (x ≡ 13) → ((run_of (profile_of r) w).refusal ≡ some x) ↔ (answer_of h (delivers p v w) ≡ refused x)
as_delivered = (mapverdict.claims).as_delivered

-- "A profile that no accepted build returned is treated as a state that no list of calls can leave": a
-- run on it ends within its bounds and asks nothing; what it answers is free, and is named by run_of
-- (`any_run` below).

-- ---- COMPOSITION
-- "Any two such values compose, the earlier chunk's applied first": from q the union of the sets that
-- the later mapping has for the members of the earlier one's set, of all values whatever.
pub earlier_first : (f g : List ℕ) (q p : ℕ) → q < mapped_states
    → p ∈ get_or (compose f g) q 0 ↔ (r : ℕ) × (r < mapped_states) × (r ∈ get_or f q 0) × (p ∈ get_or g r 0)
earlier_first = (mappings.claims).members

pub composes : (f g : List ℕ) → Value g → Value (compose f g)
composes = (mappings.claims).composes

-- the mapping of two texts joined is the composition of theirs
pub of_both : (r : Rule) → Small r → (v w : List ℕ) → mapping_after r (v ++ w) ≡ compose (mapping_after r v) (mapping_after r w)
of_both = (mappings.claims).of_both

-- "Show that composition doesn't depend on bracketing": three values, and any brackets over any list
-- that is not empty.
pub associative : (f g h : List ℕ) → compose (compose f g) h ≡ compose f (compose g h)
associative = (mappings.claims).associative

pub bracketing : (x y : Bracketed (List ℕ)) → leaves x ≡ leaves y → value_of compose x ≡ value_of compose y
bracketing = (mappings.claims).bracketing

-- The identity of n states changes no mapping of n states, on either side; that of eight no value.
pub identity_first : (n : ℕ) → n ≤ mapped_states → (f : List ℕ) → Within n f → compose (identity n) f ≡ f
identity_first = (mappings.claims).identity_first

pub identity_last : (n : ℕ) → n ≤ mapped_states → (f : List ℕ) → Within n f → compose f (identity n) ≡ f
identity_last = (mappings.claims).identity_last

pub of_eight : (f : List ℕ) → Value f ↔ Within mapped_states f
of_eight = (mappings.claims).values

-- ---- THE VERDICT
-- Of any eight masks: yes exactly where the mask of an initial state has a final state. Bits at n or
-- above, and masks from n on, mean nothing.
pub verdict : (r : Rule) → Takes r → (f : List ℕ)
    → (verdict_of (profile_of r) f ≡ true) ↔ (q : ℕ) × (p : ℕ) × (q ∈ r.initials) × (p ∈ get_or f q 0) × (p ∈ r.finals)
verdict = (profile.claims).verdict

pub means_nothing : (r : Rule) → Takes r → (f g : List ℕ) → ((q p : ℕ) → q < r.n → p < r.n → (p ∈ get_or f q 0) ↔ (p ∈ get_or g q 0))
    → verdict_of (profile_of r) f ≡ verdict_of (profile_of r) g
means_nothing = (profile.claims).means_nothing

-- "that the final mapping gives the yes or no that a filled board with the same chunks gives, for every
-- rule in the profile". After any list of calls that leaves a board filled with the chunks ws:
pub same_yes : (h : List Call) (r : Rule) (ws : List (List ℕ)) → Takes r → Filled h r ws → (t : Bracketed (List ℕ)) → leaves t ≡ mappings_of r ws
    → (verdict_of (profile_of r) (value_of compose t) ≡ true) ↔ (verdict_in h ≡ yes_with (summed_in h))
same_yes = (mapverdict.claims).yes_same

pub same_no : (h : List Call) (r : Rule) (ws : List (List ℕ)) → Takes r → Filled h r ws → (t : Bracketed (List ℕ)) → leaves t ≡ mappings_of r ws
    → (verdict_of (profile_of r) (value_of compose t) ≡ false) ↔ (verdict_in h ≡ no_with (summed_in h))
same_no = (mapverdict.claims).no_same

-- and of any number of chunks, more than a board has places: whether the rule accepts their texts joined.
pub accepts : (r : Rule) → Takes r → (ws : List (List ℕ)) → RunsAll r ws → (t : Bracketed (List ℕ)) → leaves t ≡ mappings_of r ws
    → (verdict_of (profile_of r) (value_of compose t) ≡ true) ↔ Accepts (automaton_of r) (flatten (map text_of ws))
accepts = (profile.claims).says

-- None of this is about nothing: a board without an empty place is filled so, the profile runs what
-- stands on it, and any 1 to 64 chunks that the profile runs fill a board with its rule.
pub filled : (h : List Call) (r : Rule) → rule_there h ≡ some r → board_in h ≡ true → empties_in h ≡ 0 → (ws : List (List ℕ)) × Filled h r ws
filled = (mapverdict.claims).filled

pub runs_them : (h : List Call) (r : Rule) (ws : List (List ℕ)) → Takes r → Filled h r ws → RunsAll r ws
runs_them = (mapverdict.claims).runs

pub installs : (r : Rule) → Takes r → install_number r ≡ none
installs = (mapverdict.claims).installs

pub fillings : (r : Rule) → Takes r → (ws : List (List ℕ)) → 1 ≤ length ws → length ws ≤ most_places → RunsAll r ws → (h : List Call) × Filled h r ws
fillings = (mapverdict.claims).fillings

-- ---- FROM C
-- The functions that C links ask nothing, and allow these numbers and no others, for any rule, any
-- profile, any bytes and any masks.
pub asks_nothing : (r : Rule) (p : Profile) (f g : Mapping) (κs : Lfts 1) (c : Bor (List ℕ))
    → build_reads.Asked tt (r, tt) × run_reads.Asked κs (p, (c, tt)) × compose_reads.Asked tt (f, (g, tt)) × verdict_reads.Asked tt (p, (f, tt))
asks_nothing r p f g κs c = (asks.build_asks_nothing r, asks.run_asks_nothing κs p c, asks.compose_asks_nothing f g, asks.verdict_asks_nothing p f)

pub any_build : (r : Rule) (b : BuildNumbers) → MayBuild r b ↔ b ≡ build_shown (build_of r)
any_build = functions.build_fixed

pub any_run : (p : Profile) (w : List ℕ) (n : RunNumbers) → MayRun p w n ↔ n ≡ run_shown (run_of p w)
any_run = functions.run_fixed

pub any_composition : (f g h : Mapping) → MayCompose f g h ↔ h ≡ mapping_shown (compose f.masks g.masks)
any_composition = functions.compose_fixed

pub any_verdict : (p : Profile) (f : Mapping) (x : ℕ) → MaySay p f x ↔ x ≡ verdict_shown (verdict_of p f.masks)
any_verdict = functions.say_fixed

-- What the numbers say can be read back.
pub build_said : (r : Rule) → build_read_back (build_shown (build_of r)) ≡ build_of r
build_said = (c_mappings.claims).build_read_back_lem

pub run_said : (p : Profile) (w : List ℕ) → run_read_back (run_shown (run_of p w)) ≡ run_of p w
run_said = (c_mappings.claims).run_read_back_lem

-- Each of C's numbers in other words than the definition's: accepted and refused, the
-- profile, the mapping, the verdict.
pub each_number : c_claims.Claims
each_number = c_mappings.claims

-- Who builds a profile, runs the chunks of a filled board on it, composes what comes of them two at a
-- time, in any way, and asks for the verdict gets the yes or no that `bellbadger_verdict` gives.
pub same_answer : (r : Rule) (b : BuildNumbers) → MayBuild r b → b.accepted ≡ 1
    → (h : List Call) (ws : List (List ℕ)) → Filled h r ws
    → (fs : List Mapping) → RunEach b.profile ws fs → (f : Mapping) → ComposedTo fs f
    → (x : ℕ) → MaySay b.profile f x → (v : VerdictNumbers) → MayJudge (judge_after h) v → SameAnswer x v
same_answer = functions.same_answer

-- ---- FROM A FILE, BY A PROGRAM
-- `profileprint` prints the text for its file (`print_profile` promises it), for which its buffer has room:
pub printed_fits : (f : List ℕ) → length (text_for f) ≤ most_bytes
printed_fits = (profiletext.claims).fits

-- Rule A's profile as it is printed, and a mapping's digits, by hand:
pub printed_A : text_for file_A ≡ lines_A
printed_A = (profiletext.claims).worked

pub mapping_by_hand : mapping_text three_states ≡ three_text
mapping_by_hand = (maptext.claims).worked

-- ---- LINES
-- All that `mapjudge` writes, in whatever rounds the blocks of its input are fed, is right line by line. (A
-- round is what the contract of `gather` promises, and the end what that of `finish` does:
-- mapstream/src/lib.rt.)
pub lines_written : {s' : State Beginning (Listed MapState)} {blocks : List (List ℕ)} {line text : List ℕ} → map_room + 1 ≤ length line
    → Blocks map_lines (state_of (list_of none_yet false) line_begin line) blocks s' text
    → text ++ (finish_of map_lines s').text ≡ right_text (some []) (lines_of (flatten blocks))
lines_written = (mapstream.claims).written

-- By hand, in bytes: a build of rule A, runs, a composition and the other way about, verdicts, and
-- a refused build, which keeps the former profile.
pub lines_by_hand : right_text (some []) (lines_of calls_text) ≡ calls_answers
lines_by_hand = (mapstream.claims).worked_calls

-- A line means a call exactly when it is the call's word and its fields, one space between them:
-- bytes as hex digits of either case, or `-` for none; mappings as sixteen each, the earlier chunk's
-- first. An empty line forgets the profile; any other is malformed. Every call has a line.
pub line_exactly : (l : List ℕ) (c : MapCall) → (line_in l ≡ some c) ↔ SaysLine l c
line_exactly = (maplines.claims).line_exactly

pub line_malformed : (l : List ℕ) → (line_in l ≡ none) ↔ ((c : MapCall) → SaysLine l c → ⊥)
line_malformed = (maplines.claims).malformed_exactly

pub every_call : (c : MapCall) → Fits c → line_in (line_of c) ≡ some c
every_call = (maplines.claims).line_round_trip

-- After a malformed line no call is made and no verdict given until an empty line: each line is
-- answered `skipped`, whatever it says. The empty line begins afresh.
pub malformed_ends : (h : List MapCall) (l : List ℕ) (ls : List (List ℕ)) → line_in l ≡ none → NoneEmpty ls
    → right_text (some h) (l ∷ ls) ≡ malformed_text ++ skipped_lines ls
malformed_ends = (mapstream.claims).ends_list

pub begins_afresh : (h : List MapCall) (l : List ℕ) (ls more : List (List ℕ)) → line_in l ≡ none → NoneEmpty ls
    → right_text (some h) ((l ∷ ls) ++ ([] ∷ more)) ≡ malformed_text ++ (skipped_lines ls ++ ((10 ∷ []) ++ right_text (some []) more))
begins_afresh = (mapstream.claims).afresh

-- The profile that is there is that of the last accepted build: all that is said above holds of it.
pub last_built_lem : (h : List MapCall) (f : List ℕ) → last_built h ≡ some f → Takes (rule_of f)
last_built_lem = (mapcalls.claims).takes

-- It is that of the last accepted call among builds and forgettings, where this is a build:
pub last_exactly : (h : List MapCall) → LastBuilt h
last_exactly = (mapcalls.claims).last
