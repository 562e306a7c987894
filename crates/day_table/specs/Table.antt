-- THE DAYS AT THREE CLUBS marked M in document 01, "Days at three clubs": each list of bytes, and what playing it is to show. Not among
-- them: T1 plays a temptation; R1 to R3 are restarts, for request (i) of document 02, and W1 has sites of different weight, for request
-- (vi). Written from the papers. n = 3, C = A = 2, all willing (bits 7) unless said. A report's site line is: number, up or down, role,
-- state, log, n codes. A row is: kind, sender, destinations, codes. The news is request (ii)'s: how many entries of other sites the day's
-- deliveries raised.
use Rattle.std.specs.Prelude.{ℕ, List, [], ◌∷◌, ◌++◌}
use Rattle.site.specs.Records.{wrote, prepare_record, group_record, outcome_record, abort}
use Rattle.day_table.specs.Shown.{START, DELIVER, TIMEOUT, CRASH, RECOVER, three, weighed, prepare, vote, join_abort, in_group, outcome, lines, Shown}

pub record Day : Type 0 where
  pub list : List ℕ
  pub expected : Shown

-- M1 header only: accepted, 0 events, all active
unfoldable pub M1 : Day
M1 =
    record {
      list = three 7;
      expected =
          record {
            number = 0;
            place = 5;
            events = 0;
            rows = [];
            records = [];
            news = 0;
            report =
                lines
                ("sites 3 commit 2 abort 2 events 0 rows 0 news 0"
                ∷ "0 up subordinate active --- 000"
                ∷ "1 up subordinate active --- 000"
                ∷ "2 up subordinate active --- 000"
                ∷ "end 5"
                ∷ []);
          };
    }

-- M2 START: site 0 `P--`, row 0 to sites 1 and 2
unfoldable pub M2 : Day
M2 =
    record {
      list = three 7 ++ START;
      expected =
          record {
            number = 0;
            place = 6;
            events = 1;
            rows = prepare 0 (1 ∷ 2 ∷ []) "100" ∷ [];
            records = wrote 0 prepare_record ∷ [];
            news = 0;
            report =
                lines
                ("sites 3 commit 2 abort 2 events 1 rows 1 news 0"
                ∷ "0 up coordinator prepared P-- 100"
                ∷ "1 up subordinate active --- 000"
                ∷ "2 up subordinate active --- 000"
                ∷ "end 6"
                ∷ []);
          };
    }

-- M3 the report of document 01, "The report". The input there, in hex: 03 02 02 07 00 01 02 00 00 01 02 01 00 00 03 00 02 02 00 02 02
-- 03 00 00 03 00 (START, row 0 to site 1, row 1 to site 0, TIMEOUT 0, row 2 to site 2, row 3 to site 0, TIMEOUT 0). Its news: 1 + 1 + 2 + 1
unfoldable pub M3 : Day
M3 =
    record {
      list =
          3 ∷ 2 ∷ 2 ∷ 7 ∷ 0 ∷ 1 ∷ 2 ∷ 0 ∷ 0 ∷ 1 ∷ 2 ∷ 1 ∷ 0 ∷ 0 ∷ 3 ∷ 0 ∷ 2 ∷ 2 ∷ 0 ∷ 2 ∷ 2 ∷ 3 ∷ 0 ∷ 0 ∷ 3 ∷ 0 ∷ [];
      expected =
          record {
            number = 0;
            place = 26;
            events = 7;
            rows =
                prepare 0 (1 ∷ 2 ∷ []) "100"
                ∷ vote 1 (0 ∷ []) "110"
                ∷ join_abort 0 (1 ∷ 2 ∷ []) "310"
                ∷ in_group 2 (0 ∷ []) "313"
                ∷ outcome 0 (1 ∷ 2 ∷ []) "513"
                ∷ [];
            records =
                wrote 0 prepare_record
                ∷ wrote 1 prepare_record
                ∷ wrote 0 (group_record abort)
                ∷ wrote 2 (group_record abort)
                ∷ wrote 0 (outcome_record abort)
                ∷ [];
            news = 5;
            report =
                lines
                ("sites 3 commit 2 abort 2 events 7 rows 5 news 5"
                ∷ "0 up coordinator aborted PAa 513"
                ∷ "1 up subordinate prepared P-- 110"
                ∷ "2 up subordinate abort-group -A- 313"
                ∷ "end 26"
                ∷ []);
          };
    }

-- M4 willing bits 5: START, row 0 to site 1 (log `--a`, codes 150), row 1 to site 0: `P-a`, codes 550
unfoldable pub M4 : Day
M4 =
    record {
      list = three 5 ++ START ++ DELIVER 0 1 ++ DELIVER 1 0;
      expected =
          record {
            number = 0;
            place = 14;
            events = 3;
            rows = prepare 0 (1 ∷ 2 ∷ []) "100" ∷ vote 1 (0 ∷ []) "150" ∷ [];
            records = wrote 0 prepare_record ∷ wrote 1 (outcome_record abort) ∷ wrote 0 (outcome_record abort) ∷ [];
            news = 2;
            report =
                lines
                ("sites 3 commit 2 abort 2 events 3 rows 2 news 2"
                ∷ "0 up coordinator aborted P-a 550"
                ∷ "1 up subordinate aborted --a 150"
                ∷ "2 up subordinate active --- 000"
                ∷ "end 14"
                ∷ []);
          };
    }

-- M5 START, CRASH 0, RECOVER 0, TIMEOUT 0: coordinator, codes 100, row 1 is prepare again
unfoldable pub M5 : Day
M5 =
    record {
      list = three 7 ++ START ++ CRASH 0 ++ RECOVER 0 ++ TIMEOUT 0;
      expected =
          record {
            number = 0;
            place = 12;
            events = 4;
            rows = prepare 0 (1 ∷ 2 ∷ []) "100" ∷ prepare 0 (1 ∷ 2 ∷ []) "100" ∷ [];
            records = wrote 0 prepare_record ∷ [];
            news = 0;
            report =
                lines
                ("sites 3 commit 2 abort 2 events 4 rows 2 news 0"
                ∷ "0 up coordinator prepared P-- 100"
                ∷ "1 up subordinate active --- 000"
                ∷ "2 up subordinate active --- 000"
                ∷ "end 12"
                ∷ []);
          };
    }

-- M6 START, row 0 twice to site 1: one P, two votes; the second delivery is idle
unfoldable pub M6 : Day
M6 =
    record {
      list = three 7 ++ START ++ DELIVER 0 1 ++ DELIVER 0 1;
      expected =
          record {
            number = 0;
            place = 14;
            events = 3;
            rows = prepare 0 (1 ∷ 2 ∷ []) "100" ∷ vote 1 (0 ∷ []) "110" ∷ vote 1 (0 ∷ []) "110" ∷ [];
            records = wrote 0 prepare_record ∷ wrote 1 prepare_record ∷ [];
            news = 1;
            report =
                lines
                ("sites 3 commit 2 abort 2 events 3 rows 3 news 1"
                ∷ "0 up coordinator prepared P-- 100"
                ∷ "1 up subordinate prepared P-- 110"
                ∷ "2 up subordinate active --- 000"
                ∷ "end 14"
                ∷ []);
          };
    }

-- M7 TIMEOUT 2 at once: `--a`, no row
unfoldable pub M7 : Day
M7 =
    record {
      list = three 7 ++ TIMEOUT 2;
      expected =
          record {
            number = 0;
            place = 7;
            events = 1;
            rows = [];
            records = wrote 2 (outcome_record abort) ∷ [];
            news = 0;
            report =
                lines
                ("sites 3 commit 2 abort 2 events 1 rows 0 news 0"
                ∷ "0 up subordinate active --- 000"
                ∷ "1 up subordinate active --- 000"
                ∷ "2 up subordinate aborted --a 005"
                ∷ "end 7"
                ∷ []);
          };
    }

-- M8 START twice: 14
unfoldable pub M8 : Day
M8 =
    record {
      list = three 7 ++ START ++ START;
      expected =
          record {
            number = 14;
            place = 6;
            events = 1;
            rows = prepare 0 (1 ∷ 2 ∷ []) "100" ∷ [];
            records = wrote 0 prepare_record ∷ [];
            news = 0;
            report =
                lines
                ("sites 3 commit 2 abort 2 events 1 rows 1 news 0"
                ∷ "0 up coordinator prepared P-- 100"
                ∷ "1 up subordinate active --- 000"
                ∷ "2 up subordinate active --- 000"
                ∷ "refused 14 at 6"
                ∷ []);
          };
    }

-- M9 row 0 delivered to site 0 after START: 11
unfoldable pub M9 : Day
M9 =
    record {
      list = three 7 ++ START ++ DELIVER 0 0;
      expected =
          record {
            number = 11;
            place = 6;
            events = 1;
            rows = prepare 0 (1 ∷ 2 ∷ []) "100" ∷ [];
            records = wrote 0 prepare_record ∷ [];
            news = 0;
            report =
                lines
                ("sites 3 commit 2 abort 2 events 1 rows 1 news 0"
                ∷ "0 up coordinator prepared P-- 100"
                ∷ "1 up subordinate active --- 000"
                ∷ "2 up subordinate active --- 000"
                ∷ "refused 11 at 6"
                ∷ []);
          };
    }

-- M10 RECOVER 1 at once: 13
unfoldable pub M10 : Day
M10 =
    record {
      list = three 7 ++ RECOVER 1;
      expected =
          record {
            number = 13;
            place = 5;
            events = 0;
            rows = [];
            records = [];
            news = 0;
            report =
                lines
                ("sites 3 commit 2 abort 2 events 0 rows 0 news 0"
                ∷ "0 up subordinate active --- 000"
                ∷ "1 up subordinate active --- 000"
                ∷ "2 up subordinate active --- 000"
                ∷ "refused 13 at 5"
                ∷ []);
          };
    }

-- T1 code 3 is no prepare ("Where a builder is tempted"): START, row 0 to site 1, TIMEOUT 0, row 2 to site 2, row 3 to site 0,
-- TIMEOUT 1, row 4 to site 0, row 5 to site 1, which now holds 313: no entry is 0, yet site 2 has not prepared. TIMEOUT 1: site 1
-- joins the abort group, codes 333
unfoldable pub T1 : Day
T1 =
    record {
      list =
          three 7
          ++ START
          ++ DELIVER 0 1
          ++ TIMEOUT 0
          ++ DELIVER 2 2
          ++ DELIVER 3 0
          ++ TIMEOUT 1
          ++ DELIVER 4 0
          ++ DELIVER 5 1
          ++ TIMEOUT 1;
      expected =
          record {
            number = 0;
            place = 32;
            events = 9;
            rows =
                prepare 0 (1 ∷ 2 ∷ []) "100"
                ∷ vote 1 (0 ∷ []) "110"
                ∷ join_abort 0 (1 ∷ 2 ∷ []) "300"
                ∷ in_group 2 (0 ∷ []) "303"
                ∷ prepare 1 (0 ∷ 2 ∷ []) "110"
                ∷ vote 0 (1 ∷ []) "313"
                ∷ join_abort 1 (0 ∷ 2 ∷ []) "333"
                ∷ [];
            records =
                wrote 0 prepare_record
                ∷ wrote 1 prepare_record
                ∷ wrote 0 (group_record abort)
                ∷ wrote 2 (group_record abort)
                ∷ wrote 1 (group_record abort)
                ∷ [];
            news = 6;
            report =
                lines
                ("sites 3 commit 2 abort 2 events 9 rows 7 news 6"
                ∷ "0 up coordinator abort-group PA- 313"
                ∷ "1 up coordinator abort-group PA- 333"
                ∷ "2 up subordinate abort-group -A- 303"
                ∷ "end 32"
                ∷ []);
          };
    }

-- R1 a site that restarts before it has voted: START, CRASH 1, RECOVER 1: `--a`, codes 050, no further row
unfoldable pub R1 : Day
R1 =
    record {
      list = three 7 ++ START ++ CRASH 1 ++ RECOVER 1;
      expected =
          record {
            number = 0;
            place = 10;
            events = 3;
            rows = prepare 0 (1 ∷ 2 ∷ []) "100" ∷ [];
            records = wrote 0 prepare_record ∷ wrote 1 (outcome_record abort) ∷ [];
            news = 0;
            report =
                lines
                ("sites 3 commit 2 abort 2 events 3 rows 1 news 0"
                ∷ "0 up coordinator prepared P-- 100"
                ∷ "1 up subordinate aborted --a 050"
                ∷ "2 up subordinate active --- 000"
                ∷ "end 10"
                ∷ []);
          };
    }

-- R2 R1, then row 0 to site 1, whose vote shows 5, and that vote, row 1, to site 0: `P-a`, codes 550
unfoldable pub R2 : Day
R2 =
    record {
      list = three 7 ++ START ++ CRASH 1 ++ RECOVER 1 ++ DELIVER 0 1 ++ DELIVER 1 0;
      expected =
          record {
            number = 0;
            place = 18;
            events = 5;
            rows = prepare 0 (1 ∷ 2 ∷ []) "100" ∷ vote 1 (0 ∷ []) "150" ∷ [];
            records = wrote 0 prepare_record ∷ wrote 1 (outcome_record abort) ∷ wrote 0 (outcome_record abort) ∷ [];
            news = 2;
            report =
                lines
                ("sites 3 commit 2 abort 2 events 5 rows 2 news 2"
                ∷ "0 up coordinator aborted P-a 550"
                ∷ "1 up subordinate aborted --a 150"
                ∷ "2 up subordinate active --- 000"
                ∷ "end 18"
                ∷ []);
          };
    }

-- R3 CRASH 0, RECOVER 0, then START: 14
unfoldable pub R3 : Day
R3 =
    record {
      list = three 7 ++ CRASH 0 ++ RECOVER 0 ++ START;
      expected =
          record {
            number = 14;
            place = 9;
            events = 2;
            rows = [];
            records = wrote 0 (outcome_record abort) ∷ [];
            news = 0;
            report =
                lines
                ("sites 3 commit 2 abort 2 events 2 rows 0 news 0"
                ∷ "0 up subordinate aborted --a 500"
                ∷ "1 up subordinate active --- 000"
                ∷ "2 up subordinate active --- 000"
                ∷ "refused 14 at 9"
                ∷ []);
          };
    }

-- W1 weights 2, 2 and 1, C = A = 3: the day M3. At TIMEOUT 0 the abort group is sites 0 and 2: two sites, which weigh 3
unfoldable pub W1 : Day
W1 =
    record {
      list =
          weighed 3 3 7 (2 ∷ 2 ∷ 1 ∷ [])
          ++ START
          ++ DELIVER 0 1
          ++ DELIVER 1 0
          ++ TIMEOUT 0
          ++ DELIVER 2 2
          ++ DELIVER 3 0
          ++ TIMEOUT 0;
      expected =
          record {
            number = 0;
            place = 32;
            events = 7;
            rows =
                prepare 0 (1 ∷ 2 ∷ []) "100"
                ∷ vote 1 (0 ∷ []) "110"
                ∷ join_abort 0 (1 ∷ 2 ∷ []) "310"
                ∷ in_group 2 (0 ∷ []) "313"
                ∷ outcome 0 (1 ∷ 2 ∷ []) "513"
                ∷ [];
            records =
                wrote 0 prepare_record
                ∷ wrote 1 prepare_record
                ∷ wrote 0 (group_record abort)
                ∷ wrote 2 (group_record abort)
                ∷ wrote 0 (outcome_record abort)
                ∷ [];
            news = 5;
            report =
                lines
                ("sites 3 commit 3 abort 3 events 7 rows 5 news 5"
                ∷ "0 up coordinator aborted PAa 513"
                ∷ "1 up subordinate prepared P-- 110"
                ∷ "2 up subordinate abort-group -A- 313"
                ∷ "end 32"
                ∷ []);
          };
    }

-- THE TABLE
unfoldable pub days : List Day
days = M1 ∷ M2 ∷ M3 ∷ M4 ∷ M5 ∷ M6 ∷ M7 ∷ M8 ∷ M9 ∷ M10 ∷ T1 ∷ R1 ∷ R2 ∷ R3 ∷ W1 ∷ []
